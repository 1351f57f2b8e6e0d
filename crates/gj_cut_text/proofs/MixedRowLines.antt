-- The columns of terms; what is made of a row; the line of a row with a mixed cut: its columns, and
-- that its cut holds.
use Rattle.std.proofs.Common.{◌≡◌, ℕ, ◌+◌, ◌<◌, Bool, true, false, not, List, [], ◌∷◌, All, get_or, length, map, filter, take, refl, sym, ap, ap₂, subst, subst₂, ◌∙◌, ◌++◌}
use Rattle.std.specs.List.{AllZip}
use Rattle.std.proofs.lemmas.List.{flat_map_more, length-map}
use Rattle.std.proofs.lemmas.List.Elements.{All-nil, All-cons, All-head, All-tail, All-filter}
use Rattle.gj_frac.specs.declared.Frac.{Frac}
use Rattle.gj_row.specs.TableauLimits.{IsRowWithinLimits}
use Rattle.gj_row.specs.declared.tableau.Entry.{Entry}
use Rattle.gj_row.specs.declared.tableau.Row.{Row}
use Rattle.gj_rule.specs.declared.kind.RuleKind.{RuleKind}
use Rattle.gj_rule.specs.declared.kind.RuleKind.TheVariants as kind
use Rattle.gj_cut.proofs.RowTerms.{zip_next}
use Rattle.gj_cut.specs.RowCuts.{IsCutOfKind, IsGmicCutOf, IsTermOfKind}
use Rattle.gj_cut.specs.declared.cut.RowCut.{RowCut}
use Rattle.gj_cut.specs.declared.cut.RowCut.TheVariants as row_cut
use Rattle.gj_cut.specs.declared.cut.Term.{Term}
use Rattle.gj_mixed.specs.MixedCuts.{IsMixedCutOfKind, IsGmicMixedCutOf, IsWeightTerm, MixedHoldsFor, is_continuous, without_weights}
use Rattle.gj_mixed.specs.MixedRows.{MixedCutHolds}
use Rattle.gj_mixed.specs.declared.cut.MixedCut.{MixedCut}
use Rattle.gj_mixed.specs.declared.cut.MixedCut.TheVariants as mixed_cut
use Rattle.gj_proof.specs.declared.cut.CutLine.{CutLine}
use Rattle.gj_proof.specs.declared.cut.CutLine.TheVariants.{Cut, Skip}
use Rattle.gj_proof.specs.CutRules.{MakesContinuousCuts}
use Rattle.gj_proof.specs.declared.cut.CutRule.{CutRule}
use Rattle.gj_proof.specs.declared.cut.CutRule.TheVariants.{Gmic, Table}
use Rattle.gj_proof.specs.declared.cut.CutTerm.{CutTerm}
use Rattle.gj_cut_text.specs.Columns.{begins_with_c, continuous_columns}
use Rattle.gj_cut_text.specs.MixedLines.{AppendsLines, AreInColumns, IsMadeCut, IsMadeLine, IsMixedCutBy, IsNamedTerm, IsWholeCutBy, LineHolds, MakesCutsIn, MixedLineHolds, NamesMixedCut, mixed_row_text}
use Rattle.gj_cut_text.specs.declared.mixed_lines.MixedLine.{MixedLine}

-- ---- the columns of terms

pub terms_in_columns : (P : Entry → Term → Type 0) (n : ℕ) (entries : List Entry)
    (terms : List Term) →
    ((e : Entry) (t : Term) → P e t → t.column ≡ e.column) → All (λ e. e.column < n) entries →
    AllZip P entries terms →
    All (λ t. t.column < n) terms
terms_in_columns P n [] [] same below h = All-nil (λ t. t.column < n)
terms_in_columns P n [] (t ∷ terms) same below h = absurd h
terms_in_columns P n (e ∷ entries) [] same below h = absurd h
terms_in_columns P n (e ∷ entries) (t ∷ terms) same below h =
    All-cons (λ (t : Term). t.column < n) t terms
    (subst (λ c. c < n) (sym (same e t h.0))
    (All-head (λ (e : Entry). e.column < n) e entries below))
    (terms_in_columns P n entries terms same
    (All-tail (λ (e : Entry). e.column < n) e entries below) h.1)

pub cut_in_columns : (k : RuleKind) (up down : Frac) (continuous : List Bool) (n : ℕ) (row : Row)
    (cut : MixedCut) →
    IsRowWithinLimits n row → IsMixedCutOfKind k up down continuous row cut → AreInColumns n cut
cut_in_columns k up down continuous n row (mixed_cut.Cut terms weights) limits h = (
  terms_in_columns (IsTermOfKind k) n (filter (λ e. not (is_continuous continuous e)) row.entries)
      terms (λ e t p. p.column_is)
      (All-filter (λ e. not (is_continuous continuous e))
      (λ e. e.column < n) row.entries limits.below) h.2,
  terms_in_columns (IsWeightTerm up down) n (filter (is_continuous continuous) row.entries) weights
      (λ e t p. p.column_is)
      (All-filter (is_continuous continuous) (λ e. e.column < n) row.entries limits.below) h.3,
)
cut_in_columns k up down continuous n row mixed_cut.Integral limits h = tt
cut_in_columns k up down continuous n row mixed_cut.OtherFraction limits h = tt

pub gmic_in_columns : (continuous : List Bool) (n : ℕ) (row : Row) (cut : MixedCut) →
    IsRowWithinLimits n row →
    IsGmicMixedCutOf continuous row cut → AreInColumns n cut
gmic_in_columns continuous n row (mixed_cut.Cut terms weights) limits (f, up, down, slopes, h) =
    cut_in_columns (kind.Gmic f) up down continuous n row (mixed_cut.Cut terms weights) limits h
gmic_in_columns continuous n row mixed_cut.Integral limits h = tt
gmic_in_columns continuous n row mixed_cut.OtherFraction limits h = tt

pub cut_has_columns : (k : RuleKind) (n : ℕ) (row : Row) (cut : RowCut) → IsRowWithinLimits n row →
    IsCutOfKind k row cut → AreInColumns n (without_weights cut)
cut_has_columns k n row (row_cut.Cut terms) limits h = (
  terms_in_columns (IsTermOfKind k) n row.entries terms (λ e t p. p.column_is) limits.below h.2,
  All-nil (λ t. t.column < n),
)
cut_has_columns k n row row_cut.Integral limits h = tt
cut_has_columns k n row row_cut.OtherFraction limits h = tt

pub gmic_has_columns : (n : ℕ) (row : Row) (cut : RowCut) → IsRowWithinLimits n row →
    IsGmicCutOf row cut → AreInColumns n (without_weights cut)
gmic_has_columns n row (row_cut.Cut terms) limits (f, h) =
    cut_has_columns (kind.Gmic f) n row (row_cut.Cut terms) limits h
gmic_has_columns n row row_cut.Integral limits h = tt
gmic_has_columns n row row_cut.OtherFraction limits h = tt

-- ---- what is made of a row

pub mixed_made : (mixed : Bool) (r : CutRule) (columns : List (List ℕ)) (row : Row)
    (cut made : MixedCut) → mixed ≡ true → cut ≡ made → IsMixedCutBy r columns row made →
    MixedHoldsFor row made → IsMadeCut mixed r columns row cut
mixed_made mixed r columns row cut made on same by holds =
    subst₂ (λ (b : Bool) (c : MixedCut). IsMadeCut b r columns row c) (sym on) (sym same)
    (by, holds)

pub whole_made : (mixed : Bool) (r : CutRule) (columns : List (List ℕ)) (row : Row)
    (cut made : MixedCut) (whole : RowCut) → mixed ≡ false → cut ≡ made →
    made ≡ without_weights whole → IsWholeCutBy r row whole → IsMadeCut mixed r columns row cut
whole_made mixed r columns row cut made whole off same is by =
    subst (λ (b : Bool). IsMadeCut b r columns row cut) (sym off) (whole, same ∙ is, by)

-- ---- rows that are gone through

pub row_within : (n : ℕ) (rows : List Row) (i : ℕ) (row : Row) → i < length rows →
    row ≡ get_or rows i row → All (IsRowWithinLimits n) rows → IsRowWithinLimits n row
row_within n rows i row below here h = subst (IsRowWithinLimits n) (sym here) (h i row below)

-- it is known of each of its columns whether it is continuous
pub columns_flagged : (columns : List (List ℕ)) (flags : List Bool) (row : Row) →
    flags ≡ continuous_columns columns → IsRowWithinLimits (length columns) row →
    All (λ (e : Entry). e.column < length flags) row.entries
columns_flagged columns flags row are limits =
    subst (λ n. All (λ (e : Entry). e.column < n) row.entries)
    (sym (ap length are ∙ length-map columns begins_with_c)) limits.below

-- ---- cuts that hold

same_entries : (columns : List (List ℕ)) (terms : List Term) (named : List CutTerm) →
    AllZip (IsNamedTerm columns) terms named →
    map (λ t. t.entry) terms ≡ map (λ t. t.entry) named
same_entries columns [] [] h = refl
same_entries columns [] (c ∷ named) h = absurd h
same_entries columns (t ∷ terms) [] h = absurd h
same_entries columns (t ∷ terms) (c ∷ named) h =
    ap₂ (λ (x : Frac) (xs : List Frac). x ∷ xs) (sym h.0.entry)
    (same_entries columns terms named h.1)

same_cuts : (columns : List (List ℕ)) (terms : List Term) (named : List CutTerm) →
    AllZip (IsNamedTerm columns) terms named →
    map (λ t. t.cut) terms ≡ map (λ t. t.cut) named
same_cuts columns [] [] h = refl
same_cuts columns [] (c ∷ named) h = absurd h
same_cuts columns (t ∷ terms) [] h = absurd h
same_cuts columns (t ∷ terms) (c ∷ named) h =
    ap₂ (λ (x : Frac) (xs : List Frac). x ∷ xs) (sym h.0.cut) (same_cuts columns terms named h.1)

pub named_holds : (columns : List (List ℕ)) (row : Row) (cut : MixedCut) (line : CutLine)
    (weights : List CutTerm) → MixedHoldsFor row cut →
    NamesMixedCut columns row cut line weights → LineHolds line weights
named_holds columns row (mixed_cut.Cut terms weights) (Cut name right named) weighed holds n =
    let at_entries = subst₂
    (λ (xs zs : List Frac). MixedCutHolds xs zs row.rhs (map (λ t. t.cut) terms)
    (map (λ t. t.cut) weights))
    (same_entries columns terms named n.2) (same_entries columns weights weighed n.3) holds in
    let at_cuts = subst₂
    (λ (ys ws : List Frac). MixedCutHolds (map (λ t. t.entry) named)
    (map (λ t. t.entry) weighed) row.rhs ys ws)
    (same_cuts columns terms named n.2) (same_cuts columns weights weighed n.3) at_entries in
    subst (λ (r : Frac). MixedCutHolds (map (λ t. t.entry) named) (map (λ t. t.entry) weighed) r
    (map (λ t. t.cut) named) (map (λ t. t.cut) weighed))
    (sym n.1) at_cuts
named_holds columns row (mixed_cut.Cut terms weights) (Skip name right reason) weighed holds n = tt
named_holds columns row mixed_cut.Integral (Skip name right reason) weighed holds n = tt
named_holds columns row mixed_cut.Integral (Cut name right terms) weighed holds n = absurd n
named_holds columns row mixed_cut.OtherFraction (Skip name right reason) weighed holds n = tt
named_holds columns row mixed_cut.OtherFraction (Cut name right terms) weighed holds n = absurd n

-- ---- all rows

pub made_hold : (r : CutRule) (columns : List (List ℕ)) (rows : List Row) (lines : List MixedLine) →
    AllZip (IsMadeLine true r columns) rows lines → All MixedLineHolds lines
made_hold r columns [] [] h = All-nil MixedLineHolds
made_hold r columns [] (m ∷ lines) h = absurd h
made_hold r columns (row ∷ rows) [] h = absurd h
made_hold r columns (row ∷ rows) (m ∷ lines) h =
    All-cons MixedLineHolds m lines
    (named_holds columns row h.0.cut m.line m.weights h.0.is_made.1 h.0.names)
    (made_hold r columns rows lines h.1)

-- the lines of one row more
pub one_row_more : (mixed : Bool) (r : CutRule) (columns : List (List ℕ)) (rows : List Row) (i : ℕ)
    (row : Row) (old now new : List ℕ) (m : MixedLine) →
    i < length rows → row ≡ get_or rows i row →
    AppendsLines mixed r columns (take i rows) old now → IsMadeLine mixed r columns row m →
    new ≡ now ++ mixed_row_text m → AppendsLines mixed r columns (take (i + 1) rows) old new
one_row_more mixed r columns rows i row old now new m below here h made pushed = record {
  lines = h.lines ++ m ∷ [];
  are_made = zip_next (IsMadeLine mixed r columns) rows i row h.lines
      (h.lines ++ m ∷ []) m below here refl h.are_made made;
  appended = pushed ∙ ap (λ text. text ++ mixed_row_text m) h.appended
      ∙ flat_map_more mixed_row_text old h.lines m;
}

-- a function is minimal and continuous
pub makes_mixed : (r : CutRule) → MakesContinuousCuts r → MakesCutsIn true r
makes_mixed Gmic h = tt
makes_mixed (Table f) h = (h.0, λ e. h.1)

-- ---- the text

pub text_written : (title subject body last first second third fourth : List ℕ) → first ≡ title →
    second ≡ first ++ subject → third ≡ second ++ body →
    fourth ≡ third ++ last → fourth ≡ title ++ subject ++ body ++ last
text_written title subject body last first second third fourth a b c d =
    d ∙ ap (λ xs. xs ++ last) (c ∙ ap (λ xs. xs ++ body) (b ∙ ap (λ xs. xs ++ subject) a))
