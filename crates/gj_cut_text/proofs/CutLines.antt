-- The line of a row of whole columns, from its cut and the names of its columns.
use Rattle.std.proofs.Common.{◌≡◌, ℕ, List, [], ◌∷◌, ◌++◌, false, true, flat_map, get_or, map, refl, sym, ap, ap₂, ◌∙◌, subst, subst₂}
use Rattle.std.specs.List.{AllZip}
use Rattle.std.proofs.lemmas.List.{append-nil}
use Rattle.gj_frac.specs.declared.Frac.{Frac}
use Rattle.gj_frac.specs.Fraction.{IsWhole}
use Rattle.gj_shape.specs.FunctionData.{FunctionData}
use Rattle.gj_theory.specs.Cuts.{IsGmicValue}
use Rattle.gj_rule.specs.Kind.{IsKindValue}
use Rattle.gj_rule.specs.declared.kind.RuleKind.{RuleKind}
use Rattle.gj_rule.specs.declared.kind.RuleKind.TheVariants as kind
use Rattle.gj_row.specs.declared.tableau.Entry.{Entry}
use Rattle.gj_row.specs.declared.tableau.Row.{Row}
use Rattle.gj_cut.specs.RowCuts.{HasPart, IsCutOfKind, IsGmicCutOf, IsTermOfKind}
use Rattle.gj_cut.specs.declared.cut.Term.{Term}
use Rattle.gj_cut.specs.declared.cut.RowCut.{RowCut}
use Rattle.gj_cut.specs.declared.cut.RowCut.TheVariants as row_cut
use Rattle.gj_mixed.specs.MixedCuts.{without_weights}
use Rattle.gj_mixed.specs.declared.cut.MixedCut.{MixedCut}
use Rattle.gj_cut_text.specs.MixedLines.{AppendsLines, IsMadeLine, IsNamedTerm, IsWholeCutBy, MakesCutsIn, NamesMixedCut, mixed_row_text, weight_line}
use Rattle.gj_cut_text.specs.declared.mixed_lines.MixedLine.{MixedLine}
use Rattle.gj_proof.specs.CutRules.{MakesCuts}
use Rattle.gj_proof.specs.ProofText.{row_text}
use Rattle.gj_proof.specs.Rules.{MeetsValue}
use Rattle.gj_proof.specs.declared.cut.CutLine.{CutLine}
use Rattle.gj_proof.specs.declared.cut.CutLine.TheVariants.{Cut, Skip}
use Rattle.gj_proof.specs.declared.cut.CutRule.{CutRule}
use Rattle.gj_proof.specs.declared.cut.CutRule.TheVariants.{Gmic, Table}
use Rattle.gj_proof.specs.declared.cut.CutTerm.{CutTerm}
use Rattle.gj_proof.specs.declared.cut.SkipReason.TheVariants.{Integral, Other}
use Rattle.gj_values.proofs.OneValue.{one_part}
use Rattle.gj_cut_text.specs.CutLines.{IsLineFor, IsTermFor}

-- ---- lines by a rule

-- terms by a kind, with their names, are terms by a rule that has the kind's values
terms_for : (r : CutRule) (k : RuleKind) (columns : List (List ℕ)) (row : Row)
    (entries : List Entry) (terms : List Term) (named : List CutTerm) →
    ((t : CutTerm) → IsKindValue k t.entry t.cut → MeetsValue r row.rhs t) →
    AllZip (IsTermOfKind k) entries terms → AllZip (IsNamedTerm columns) terms named →
    AllZip (IsTermFor r columns row) entries named
terms_for r k columns row [] [] [] value h names = tt
terms_for r k columns row [] [] (c ∷ named) value h names = absurd names
terms_for r k columns row [] (t ∷ terms) named value h names = absurd h
terms_for r k columns row (e ∷ entries) [] named value h names = absurd h
terms_for r k columns row (e ∷ entries) (t ∷ terms) [] value h names = absurd names
terms_for r k columns row (e ∷ entries) (t ∷ terms) (c ∷ named) value h names =
    let entry : c.entry ≡ e.value = names.0.entry ∙ h.0.entry_is in (
      record {
        name = names.0.name ∙ ap (λ i. get_or columns i []) h.0.column_is;
        entry = entry;
        value = value c (subst₂ (λ (x y : Frac). IsKindValue k x y) (sym entry) (sym names.0.cut)
            h.0.value_is);
      },
      terms_for r k columns row entries terms named value h.1 names.1,
    )

pub gmic_line : (columns : List (List ℕ)) (row : Row) (cut : RowCut) (line : CutLine)
    (weights : List CutTerm) →
    IsGmicCutOf row cut → NamesMixedCut columns row (without_weights cut) line weights →
    IsLineFor Gmic columns row line
gmic_line columns row (row_cut.Cut terms) (Cut name right named) weights (f, h) names = (
  names.0,
  names.1,
  subst (λ (x : Frac). IsWhole x → ⊥) (sym names.1) h.0,
  terms_for Gmic (kind.Gmic f) columns row row.entries terms named
      (λ t v g has. subst (λ (p : Frac). IsGmicValue p t.entry t.cut) (one_part row.rhs f g h.1 has)
      v) h.2 names.2,
)
gmic_line columns row (row_cut.Cut terms) (Skip name right reason) weights h names = absurd names
gmic_line columns row row_cut.Integral (Skip name right Integral) weights h names =
    (names.0, names.1, subst IsWhole (sym names.1) h)
gmic_line columns row row_cut.Integral (Skip name right Other) weights h names = absurd names
gmic_line columns row row_cut.Integral (Cut name right named) weights h names = absurd names
gmic_line columns row row_cut.OtherFraction line weights h names = absurd h

pub function_line : (f : FunctionData) (columns : List (List ℕ)) (row : Row) (cut : RowCut)
    (line : CutLine) (weights : List CutTerm) →
    IsCutOfKind (kind.Table f) row cut →
    NamesMixedCut columns row (without_weights cut) line weights →
    IsLineFor (Table f) columns row line
function_line f columns row (row_cut.Cut terms) (Cut name right named) weights h names = (
  names.0,
  names.1,
  subst (HasPart (kind.Table f)) (sym names.1) h.1,
  terms_for (Table f) (kind.Table f) columns row row.entries terms named (λ t v. v) h.2 names.2,
)
function_line f columns row (row_cut.Cut terms) (Skip name right reason) weights h names =
    absurd names
function_line f columns row row_cut.Integral (Skip name right Integral) weights h names =
    (names.0, names.1, subst IsWhole (sym names.1) h)
function_line f columns row row_cut.Integral (Skip name right Other) weights h names = absurd names
function_line f columns row row_cut.Integral (Cut name right named) weights h names = absurd names
function_line f columns row row_cut.OtherFraction (Skip name right Other) weights h names = (
  names.0,
  names.1,
  (
    subst (λ (x : Frac). IsWhole x → ⊥) (sym names.1) h.0,
    subst (λ (x : Frac). HasPart (kind.Table f) x → ⊥) (sym names.1) h.1,
  ),
)
function_line f columns row row_cut.OtherFraction (Skip name right Integral) weights h names =
    absurd names
function_line f columns row row_cut.OtherFraction (Cut name right named) weights h names =
    absurd names

-- a cut without weights has no lines of weights
no_weights : (columns : List (List ℕ)) (row : Row) (cut : RowCut) (line : CutLine)
    (weights : List CutTerm) → NamesMixedCut columns row (without_weights cut) line weights →
    weights ≡ []
no_weights columns row (row_cut.Cut terms) (Cut name right named) [] names = refl
no_weights columns row (row_cut.Cut terms) (Cut name right named) (w ∷ weights) names =
    absurd names.3
no_weights columns row (row_cut.Cut terms) (Skip name right reason) weights names = absurd names
no_weights columns row row_cut.Integral (Skip name right Integral) weights names = names.2
no_weights columns row row_cut.Integral (Skip name right Other) weights names = absurd names
no_weights columns row row_cut.Integral (Cut name right named) weights names = absurd names
no_weights columns row row_cut.OtherFraction (Skip name right Other) weights names = names.2
no_weights columns row row_cut.OtherFraction (Skip name right Integral) weights names = absurd names
no_weights columns row row_cut.OtherFraction (Cut name right named) weights names = absurd names

-- ---- all rows

line_for : (r : CutRule) (columns : List (List ℕ)) (row : Row) (cut : RowCut) (line : CutLine)
    (weights : List CutTerm) → IsWholeCutBy r row cut →
    NamesMixedCut columns row (without_weights cut) line weights → IsLineFor r columns row line
line_for Gmic columns row cut line weights h names = gmic_line columns row cut line weights h names
line_for (Table f) columns row cut line weights h names =
    function_line f columns row cut line weights h names

-- the lines without those of weights
whole_lines : (r : CutRule) (columns : List (List ℕ)) (rows : List Row)
    (lines : List MixedLine) → AllZip (IsMadeLine false r columns) rows lines →
    AllZip (IsLineFor r columns) rows (map (λ m. m.line) lines)
    × (flat_map mixed_row_text lines ≡ flat_map row_text (map (λ m. m.line) lines))
whole_lines r columns [] [] h = (tt, refl)
whole_lines r columns [] (m ∷ lines) h = absurd h
whole_lines r columns (row ∷ rows) [] h = absurd h
whole_lines r columns (row ∷ rows) (m ∷ lines) h =
    let (whole, is, by) = h.0.is_made in
    let names = subst (λ (c : MixedCut). NamesMixedCut columns row c m.line m.weights) is
    h.0.names in
    let (are, texts) = whole_lines r columns rows lines h.1 in
    let alone : mixed_row_text m ≡ row_text m.line =
    ap (λ ws. row_text m.line ++ flat_map weight_line ws)
    (no_weights columns row whole m.line m.weights names)
    ∙ append-nil (row_text m.line) in
    ((line_for r columns row whole m.line m.weights by names, are), ap₂ (λ xs ys. xs ++ ys) alone texts)

pub lines_alone : (r : CutRule) (columns : List (List ℕ)) (rows : List Row) (old new : List ℕ) →
    AppendsLines false r columns rows old new →
    (lines : List CutLine) × AllZip (IsLineFor r columns) rows lines
    × (new ≡ old ++ flat_map row_text lines)
lines_alone r columns rows old new h =
    let (are, texts) = whole_lines r columns rows h.lines h.are_made in
    (map (λ m. m.line) h.lines, are, h.appended ∙ ap (λ xs. old ++ xs) texts)

-- a function is minimal
pub makes_whole : (r : CutRule) → MakesCuts r → MakesCutsIn false r
makes_whole Gmic h = tt
makes_whole (Table f) h = (h, λ (e : false ≡ true). cc)
