-- The command `mixed` has one answer.
use Rattle.std.proofs.Common.{◌≡◌, ℕ, ◌-◌, Bool, pos, ◌*ℤ◌, unsigned_abs, List, ◌++◌, codes, flat_map, refl, sym, ap₂, subst, ◌∙◌}
use Rattle.gj_frac.specs.declared.Frac.{Frac}
use Rattle.gj_frac.specs.Fraction.{IsInside, numerator, denominator}
use Rattle.gj_function_lines.specs.FunctionLines.{line}
use Rattle.gj_function_lines.proofs.OneTextOfLines.{one_text_of_lines}
use Rattle.gj_shape.specs.FunctionData.{FunctionData, IsWithinBounds}
use Rattle.gj_shape.proofs.LeastDenominator.{denominator_some}
use Rattle.gj_row.specs.declared.tableau.Entry.{Entry}
use Rattle.gj_row.specs.declared.tableau.Row.{Row}
use Rattle.gj_row.specs.declared.tableau.Tableau.{Tableau}
use Rattle.gj_rule.specs.declared.kind.RuleKind.TheVariants as kind
use Rattle.gj_cut.specs.RowCuts.{IsTermOfKind}
use Rattle.gj_cut.specs.declared.cut.Term.{Term}
use Rattle.gj_mixed.specs.MixedCuts.{whole_entries, continuous_entries, IsWeightTerm, IsMixedCutOfKind, IsGmicMixedCutOf}
use Rattle.gj_mixed.specs.Slopes.{AreGmicSlopes}
use Rattle.gj_mixed.specs.declared.cut.MixedCut.{MixedCut}
use Rattle.gj_mixed.specs.declared.cut.MixedCut.TheVariants as mixed_cut
use Rattle.gj_cut_text.specs.Columns.{continuous_columns}
use Rattle.gj_cut_text.specs.MixedLines.{IsNamedTerm, IsMixedCutBy, NamesMixedCut, IsMixedLineFor, AreMixedCutsOf, mixed_row_text}
use Rattle.gj_cut_text.specs.declared.mixed_lines.MixedLine.{MixedLine}
use Rattle.gj_mixed.proofs.OneSlopes.{one_weight, one_up, one_down, one_up_at_zero, one_down_at_zero}
use Rattle.gj_check.proofs.FractionalParts.{part_inside}
use Rattle.gj_values.proofs.OneValue.{one_part, one_gmic_value, one_value}
use Rattle.gj_proof.specs.ProofText.{IsBoundedRule, AreSubjectLines, subject_of_rule}
use Rattle.gj_proof.specs.declared.cut.CutLine.{CutLine}
use Rattle.gj_proof.specs.declared.cut.CutLine.TheVariants.{Cut, Skip}
use Rattle.gj_proof.specs.declared.cut.CutRule.{CutRule}
use Rattle.gj_proof.specs.declared.cut.CutRule.TheVariants.{Gmic, Table}
use Rattle.gj_proof.specs.declared.cut.CutTerm.{CutTerm}
use Rattle.gj_proof.specs.declared.cut.SkipReason.TheVariants.{Integral, Other}
use Rattle.gj_problem_text.proofs.OneTextOfCuts.{one_rule_text}
use Rattle.gj_top.specs.declared.reply.End.{End}
use Rattle.gj_top.specs.declared.reply.End.TheVariants as end
use Rattle.gj_top.specs.Cut.{CutInput, SpellsCutInput}
use Rattle.gj_top.specs.Mixed.{IsMixedReply, mixed}
use Rattle.gj_top.proofs.Determined.{IsDetermined}
use Rattle.gj_row.proofs.OneTableau.{one_each}
use Rattle.gj_top.proofs.OneCuts.{one_cut_spelled, one_cut_refusal, by_rule_bounds, same_cut_term}
use Rattle.gj_top.proofs.OneObjection.{no_objection, one_objection}

-- ---- the terms of mixed cuts

same_term : (t u : Term) → t.column ≡ u.column → t.entry ≡ u.entry → t.cut ≡ u.cut → t ≡ u
same_term t u a b c = λ i. record { column = a i; entry = b i; cut = c i }

one_weight_term : (up down : Frac) (e : Entry) (t u : Term) → IsWeightTerm up down e t →
    IsWeightTerm up down e u → t ≡ u
one_weight_term up down e t u h k =
    same_term t u (h.column_is ∙ sym k.column_is) (h.entry_is ∙ sym k.entry_is)
    (one_weight up down e.value t.cut u.cut h.weight_is k.weight_is)

one_table_term : (f : FunctionData) (e : Entry) (t u : Term) → IsWithinBounds f →
    IsTermOfKind (kind.Table f) e t →
    IsTermOfKind (kind.Table f) e u → t ≡ u
one_table_term f e t u l h k =
    same_term t u (h.column_is ∙ sym k.column_is) (h.entry_is ∙ sym k.entry_is)
    (one_value f (numerator e.value *ℤ pos f.order) (unsigned_abs (denominator e.value)) t.cut u.cut
    l (denominator_some e.value) h.value_is k.value_is)

one_gmic_term : (f : Frac) (e : Entry) (t u : Term) → IsInside f → IsTermOfKind (kind.Gmic f) e t →
    IsTermOfKind (kind.Gmic f) e u → t ≡ u
one_gmic_term f e t u inside h k =
    same_term t u (h.column_is ∙ sym k.column_is) (h.entry_is ∙ sym k.entry_is)
    (one_gmic_value f e.value t.cut u.cut inside h.value_is k.value_is)

-- ---- mixed cuts

-- by a function and slopes
one_cut_by_table : (f : FunctionData) (up down : Frac) (continuous : List Bool) (row : Row)
    (a b : MixedCut) → IsWithinBounds f →
    IsMixedCutOfKind (kind.Table f) up down continuous row a →
    IsMixedCutOfKind (kind.Table f) up down continuous row b → a ≡ b
one_cut_by_table f up down continuous row (mixed_cut.Cut ts ws) (mixed_cut.Cut us vs) l h k =
    let terms = one_each (IsTermOfKind (kind.Table f)) (λ e t u. one_table_term f e t u l)
    (whole_entries continuous row.entries) ts us h.2 k.2 in
    let weights = one_each (IsWeightTerm up down) (one_weight_term up down)
    (continuous_entries continuous row.entries) ws vs h.3 k.3 in
    λ i. mixed_cut.Cut (terms i) (weights i)
one_cut_by_table f up down continuous row (mixed_cut.Cut ts ws) mixed_cut.Integral l h k =
    absurd (h.0 k)
one_cut_by_table f up down continuous row (mixed_cut.Cut ts ws) mixed_cut.OtherFraction l h k =
    absurd (k.1 h.1)
one_cut_by_table f up down continuous row mixed_cut.Integral (mixed_cut.Cut us vs) l h k =
    absurd (k.0 h)
one_cut_by_table f up down continuous row mixed_cut.Integral mixed_cut.Integral l h k = refl
one_cut_by_table f up down continuous row mixed_cut.Integral mixed_cut.OtherFraction l h k =
    absurd (k.0 h)
one_cut_by_table f up down continuous row mixed_cut.OtherFraction (mixed_cut.Cut us vs) l h k =
    absurd (h.1 k.1)
one_cut_by_table f up down continuous row mixed_cut.OtherFraction mixed_cut.Integral l h k =
    absurd (h.0 k)
one_cut_by_table f up down continuous row mixed_cut.OtherFraction mixed_cut.OtherFraction l h k =
    refl

-- the mixed-integer cut, by the fractional part of a right side that is not whole
one_gmic_terms : (f up down : Frac) (continuous : List Bool) (row : Row) (ts ws us vs : List Term) →
    IsMixedCutOfKind (kind.Gmic f) up down continuous row (mixed_cut.Cut ts ws) →
    IsMixedCutOfKind (kind.Gmic f) up down continuous row (mixed_cut.Cut us vs) →
    (ts ≡ us) × (ws ≡ vs)
one_gmic_terms f up down continuous row ts ws us vs h k =
    let inside = part_inside row.rhs f h.0 h.1 in (
      one_each (IsTermOfKind (kind.Gmic f)) (λ e t u. one_gmic_term f e t u inside)
          (whole_entries continuous row.entries) ts us h.2 k.2,
      one_each (IsWeightTerm up down) (one_weight_term up down)
          (continuous_entries continuous row.entries) ws vs h.3 k.3,
    )

one_gmic_cut : (continuous : List Bool) (row : Row) (ts ws us vs : List Term) →
    IsGmicMixedCutOf continuous row (mixed_cut.Cut ts ws) →
    IsGmicMixedCutOf continuous row (mixed_cut.Cut us vs) → (ts ≡ us) × (ws ≡ vs)
one_gmic_cut continuous row ts ws us vs (f, up, down, slopes, h) (g, other, below, slopes', k) =
    let same : g ≡ f = one_part row.rhs g f k.1 h.1 in
    let inside = part_inside row.rhs f h.0 h.1 in
    let there : AreGmicSlopes f other below =
    subst (λ (x : Frac). AreGmicSlopes x other below) same slopes' in
    let ups : other ≡ up = one_up f other up below down inside there slopes in
    let downs : below ≡ down = one_down f other up below down inside there slopes in
    let by_f = subst (λ (x : Frac). IsMixedCutOfKind (kind.Gmic x) other below continuous row
    (mixed_cut.Cut us vs)) same k in
    let by_up = subst (λ (x : Frac). IsMixedCutOfKind (kind.Gmic f) x below continuous row
    (mixed_cut.Cut us vs)) ups by_f in
    one_gmic_terms f up down continuous row ts ws us vs h
    (subst (λ (x : Frac). IsMixedCutOfKind (kind.Gmic f) up x continuous row (mixed_cut.Cut us vs))
    downs by_up)

one_cut_by_gmic : (continuous : List Bool) (row : Row) (a b : MixedCut) →
    IsGmicMixedCutOf continuous row a → IsGmicMixedCutOf continuous row b → a ≡ b
one_cut_by_gmic continuous row (mixed_cut.Cut ts ws) (mixed_cut.Cut us vs) h k =
    let same = one_gmic_cut continuous row ts ws us vs h k in
    λ i. mixed_cut.Cut (same.0 i) (same.1 i)
one_cut_by_gmic continuous row (mixed_cut.Cut ts ws) mixed_cut.Integral (f, up, down, slopes, h) k =
    absurd (h.0 k)
one_cut_by_gmic continuous row (mixed_cut.Cut ts ws) mixed_cut.OtherFraction h k = absurd k
one_cut_by_gmic continuous row mixed_cut.Integral (mixed_cut.Cut us vs) h (f, up, down, slopes, k) =
    absurd (k.0 h)
one_cut_by_gmic continuous row mixed_cut.Integral mixed_cut.Integral h k = refl
one_cut_by_gmic continuous row mixed_cut.Integral mixed_cut.OtherFraction h k = absurd k
one_cut_by_gmic continuous row mixed_cut.OtherFraction b h k = absurd h

one_mixed_cut : (r : CutRule) (columns : List (List ℕ)) (row : Row) (a b : MixedCut) →
    IsBoundedRule r → IsMixedCutBy r columns row a →
    IsMixedCutBy r columns row b → a ≡ b
one_mixed_cut Gmic columns row a b l h k = one_cut_by_gmic (continuous_columns columns) row a b h k
one_mixed_cut (Table f) columns row a b l (up, down, slopes, h) (other, below, slopes', k) =
    let ups : other ≡ up = one_up_at_zero f other up below down l slopes' slopes in
    let downs : below ≡ down = one_down_at_zero f other up below down l slopes' slopes in
    let by_up = subst (λ (x : Frac). IsMixedCutOfKind (kind.Table f) x below
    (continuous_columns columns) row b) ups k in
    one_cut_by_table f up down (continuous_columns columns) row a b l h
    (subst (λ (x : Frac). IsMixedCutOfKind (kind.Table f) up x (continuous_columns columns) row b)
    downs by_up)

-- ---- lines of mixed cuts

one_named : (columns : List (List ℕ)) (t : Term) (a b : CutTerm) → IsNamedTerm columns t a →
    IsNamedTerm columns t b → a ≡ b
one_named columns t a b h k = same_cut_term a b (h.name ∙ sym k.name) (h.entry ∙ sym k.entry)
    (h.cut ∙ sym k.cut)

same_line : (a b : MixedLine) → a.line ≡ b.line → a.weights ≡ b.weights → a ≡ b
same_line a b l w = λ i. record { line = l i; weights = w i }

one_naming : (columns : List (List ℕ)) (row : Row) (cut : MixedCut) (a b : CutLine)
    (us vs : List CutTerm) → NamesMixedCut columns row cut a us →
    NamesMixedCut columns row cut b vs → (a ≡ b) × (us ≡ vs)
one_naming columns row (mixed_cut.Cut ts ws) (Cut n x ns) (Cut m y ms) us vs h k =
    let name : n ≡ m = h.0 ∙ sym k.0 in
    let right : x ≡ y = h.1 ∙ sym k.1 in
    let terms = one_each (IsNamedTerm columns) (one_named columns) ts ns ms h.2 k.2 in (
      λ i. Cut (name i) (right i) (terms i),
      one_each (IsNamedTerm columns)
          (one_named columns) ws us vs h.3 k.3,
    )
one_naming columns row mixed_cut.Integral (Skip n x Integral) (Skip m y Integral) us vs h k =
    let name : n ≡ m = h.0 ∙ sym k.0 in
    let right : x ≡ y = h.1 ∙ sym k.1 in
    (λ i. Skip (name i) (right i) Integral, h.2 ∙ sym k.2)
one_naming columns row mixed_cut.OtherFraction (Skip n x Other) (Skip m y Other) us vs h k =
    let name : n ≡ m = h.0 ∙ sym k.0 in
    let right : x ≡ y = h.1 ∙ sym k.1 in
    (λ i. Skip (name i) (right i) Other, h.2 ∙ sym k.2)
one_naming columns row (mixed_cut.Cut ts ws) (Cut n x ns) b us vs h k = absurd k
one_naming columns row mixed_cut.Integral (Skip n x Integral) b us vs h k = absurd k
one_naming columns row mixed_cut.OtherFraction (Skip n x Other) b us vs h k = absurd k
one_naming columns row cut a b us vs h k = absurd h

one_mixed_line : (r : CutRule) (columns : List (List ℕ)) (row : Row) (a b : MixedLine) →
    IsBoundedRule r → IsMixedLineFor r columns row a →
    IsMixedLineFor r columns row b → a ≡ b
one_mixed_line r columns row a b l h k =
    let cuts : k.cut ≡ h.cut = one_mixed_cut r columns row k.cut h.cut l k.is_cut h.is_cut in
    let same =
    one_naming columns row h.cut a.line b.line a.weights b.weights h.names
    (subst (λ (c : MixedCut). NamesMixedCut columns row c b.line b.weights) cuts k.names) in
    same_line a b same.0 same.1

one_mixed_text : (r : CutRule) (t : Tableau) (x y : List ℕ) → IsBoundedRule r →
    AreMixedCutsOf r t x → AreMixedCutsOf r t y → x ≡ y
one_mixed_text r t x y l h k =
    let lines = one_each (IsMixedLineFor r t.columns)
    (λ row a b. one_mixed_line r t.columns row a b l) t.rows h.lines k.lines h.lines_are
    k.lines_are in
    let subject = one_rule_text r h.subject k.subject l h.subject_is k.subject_is in
    h.spelled ∙ ap₂ (λ s ls. line (codes "gj-mixed 1") ++ s ++ flat_map mixed_row_text ls ++ line
    (codes "end")) subject lines ∙ sym k.spelled

-- ---- replies

one_mixed_reply : (input : List ℕ) (thing : CutInput) → SpellsCutInput input thing →
    IsBoundedRule thing.rule → (e d : End) (x y : List ℕ) →
    IsMixedReply thing e x → IsMixedReply thing d y → (e ≡ d) × (x ≡ y)
one_mixed_reply input thing spelled l end.Done end.Done x y h k =
    (refl, one_mixed_text thing.rule thing.tableau x y l h.1 k.1)
one_mixed_reply input thing spelled l end.Done d x y h k =
    absurd (no_objection thing.rule d y l h.0 k)
one_mixed_reply input thing spelled l e end.Done x y h k =
    absurd (no_objection thing.rule e x l k.0 h)
one_mixed_reply input thing spelled l e d x y h k = one_objection thing.rule e d x y l h k

pub mixed_is_determined : IsDetermined mixed
mixed_is_determined = record {
  spells = one_cut_spelled;
  refuses = one_cut_refusal;
  replies = by_rule_bounds IsMixedReply one_mixed_reply;
}
