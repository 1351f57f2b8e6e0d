-- Where every rule of a claim about cuts holds, so do the cuts.
use Rattle.std.proofs.Common.{◌≡◌, ℕ, ◌+◌, List, [], ◌∷◌, ◌++◌, All, length, map, refl, sym, ◌∙◌, append_assoc}
use Rattle.std.specs.List.{AllZip}
use Rattle.std.proofs.lemmas.List.Elements.{All-nil, All-cons, All-head, All-tail}
use Rattle.gj_frac.specs.declared.Frac.{Frac}
use Rattle.gj_frac.specs.Fraction.{IsWhole}
use Rattle.gj_lemmas.proofs.Lists.{All-front, All-back}
use Rattle.gj_shape.specs.FunctionData.{IsWithinBounds}
use Rattle.gj_shape.specs.RowCut.{CutHolds}
use Rattle.gj_shape.specs.Table.{IsMinimal}
use Rattle.gj_theory.specs.Cuts.{IsValueOf, IsGmicValue}
use Rattle.gj_theory.proofs.MinimalFromTests.{minimal_from_tests}
use Rattle.gj_theory.proofs.RowGrids.{cut_by_function, cut_by_gmic}
use Rattle.gj_proof.specs.declared.cut.CutRule.{CutRule}
use Rattle.gj_proof.specs.declared.cut.CutRule.TheVariants.{Gmic, Table}
use Rattle.gj_proof.specs.declared.cut.CutTerm.{CutTerm}
use Rattle.gj_proof.specs.Rules.{Demand, MeetsFraction, MeetsValue, rule_demands, term_demands, row_demands, cut_demands, DemandHolds, MeetsRules}
use Rattle.gj_proof.specs.Rules.Demand.{minimal, fraction, limit, term_limit, term_name, term_value}
use Rattle.gj_proof.specs.declared.claim.Claim.TheVariants as claims
use Rattle.gj_proof.specs.declared.cut.CutLine.{CutLine}
use Rattle.gj_proof.specs.declared.cut.CutLine.TheVariants as cuts
use Rattle.gj_proof.specs.ProofText.{IfFunction, subject_of_rule, IsBounded}
use Rattle.gj_proof.specs.Meaning.{CutLineHolds, ClaimHolds}
use Rattle.gj_check.specs.CutRows.{GivesCut}
use Rattle.gj_check.proofs.FractionalParts.{part_of, is_part, part_inside}
use Rattle.gj_check.proofs.CutDemands.{IsRow, to_row, to_term, value_rule, next_length, next_row, gives}

-- a function within the limits that is minimal, or the rule of the mixed-integer cut
abbrev IsMinimalRule : CutRule → Type 0
IsMinimalRule (Table f) = IsWithinBounds f × IsMinimal f
IsMinimalRule Gmic = Unit {0}

-- ---- by a function

values_zip : (R : Frac → Frac → Type 0) (terms : List CutTerm) → All (λ t. R t.entry t.cut) terms →
    AllZip R (map (λ t. t.entry) terms) (map (λ t. t.cut) terms)
values_zip R [] h = tt
values_zip R (t ∷ terms) h = (
  All-head (λ u. R u.entry u.cut) t terms h,
  values_zip R terms
      (All-tail (λ u. R u.entry u.cut) t terms h),
)

-- ---- by the rule of the mixed-integer cut

cut_by_gmic_rule : (right : Frac) (terms : List CutTerm) → (IsWhole right → ⊥) →
    All (λ t. MeetsValue Gmic right t) terms →
    CutHolds (map (λ t. t.entry) terms) right (map (λ t. t.cut) terms)
cut_by_gmic_rule right terms h values =
    let f = part_of right in
    let part = is_part right in
    cut_by_gmic f (map (λ t. t.entry) terms) right (map (λ t. t.cut) terms)
    (part_inside right f h part) part
    (values_zip (IsGmicValue f) terms (λ i t at. values i t at f part))

-- ---- by either

pub cut_of_rules : (rule : CutRule) (right : Frac) (terms : List CutTerm) → IsMinimalRule rule →
    GivesCut rule right →
    All (λ t. MeetsValue rule right t) terms →
    CutHolds (map (λ t. t.entry) terms) right (map (λ t. t.cut) terms)
cut_of_rules (Table f) right terms of_rule given values =
    cut_by_function f (map (λ t. t.entry) terms) right (map (λ t. t.cut) terms) of_rule.0 of_rule.1
    given
    (values_zip (IsValueOf f) terms values)
cut_of_rules Gmic right terms of_rule given values = cut_by_gmic_rule right terms given values

-- ---- from the demands

-- a term that the demands are made on
terms_meet : (rule : CutRule) (rows : List CutLine) (i : ℕ) (basic : List ℕ) (right : Frac)
    (terms : List CutTerm) →
    IsRow rule rows i (cuts.Cut basic right terms) → (j : ℕ) (front rest : List CutTerm) →
    terms ≡ front ++ rest → length front ≡ j →
    All (DemandHolds (claims.Cut rule rows)) (term_demands i j rest) →
    All (λ t. MeetsValue rule right t) rest
terms_meet rule rows i basic right terms at j front [] place index h =
    All-nil (λ t. MeetsValue rule right t)
terms_meet rule rows i basic right terms at j front (t ∷ rest) place index h =
    let P : Demand → Type 0 = DemandHolds (claims.Cut rule rows) in
    let more = term_demands i (j + 1) rest in
    let one = All-tail P (term_limit i j) (term_name i j ∷ term_value i j ∷ more) h in
    let two = All-tail P (term_name i j) (term_value i j ∷ more) one in
    All-cons (λ u. MeetsValue rule right u) t rest
    (to_term rule rows i basic right terms at j front t rest place index value_rule
    (All-head P (term_value i j) more two))
    (terms_meet rule rows i basic right terms at (j + 1) (front ++ t ∷ []) rest
    (place ∙ sym (append_assoc front (t ∷ []) rest)) (next_length front t j index)
    (All-tail P (term_value i j) more two))

row_meaning : (rule : CutRule) (rows : List CutLine) (i : ℕ) (l : CutLine) → IsRow rule rows i l →
    IsMinimalRule rule →
    All (DemandHolds (claims.Cut rule rows)) (row_demands i l) → CutLineHolds l
row_meaning rule rows i (cuts.Cut basic right terms) at of_rule h =
    let P : Demand → Type 0 = DemandHolds (claims.Cut rule rows) in
    let l = cuts.Cut basic right terms in
    let fraction_is = to_row rule rows i l at MeetsFraction
    (All-head P (fraction i) (limit i ∷ term_demands i 0 terms) h) in
    let rest = All-tail P (limit i) (term_demands i 0 terms)
    (All-tail P (fraction i) (limit i ∷ term_demands i 0 terms) h) in
    cut_of_rules rule right terms of_rule (gives rule basic right terms fraction_is)
    (terms_meet rule rows i basic right terms at 0 [] terms refl refl rest)
row_meaning rule rows i (cuts.Skip name right reason) at of_rule h = tt

rows_meaning : (rule : CutRule) (rows : List CutLine) (i : ℕ) (front rest : List CutLine) →
    rows ≡ front ++ rest → length front ≡ i →
    IsMinimalRule rule → All (DemandHolds (claims.Cut rule rows)) (cut_demands i rest) →
    All CutLineHolds rest
rows_meaning rule rows i front [] place index of_rule h = All-nil CutLineHolds
rows_meaning rule rows i front (l ∷ rest) place index of_rule h =
    let P : Demand → Type 0 = DemandHolds (claims.Cut rule rows) in
    All-cons CutLineHolds l rest
    (row_meaning rule rows i l (record { front = front; back = rest; place = place; index = index })
    of_rule
    (All-front P (row_demands i l) (cut_demands (i + 1) rest) h))
    (rows_meaning rule rows (i + 1) (front ++ l ∷ []) rest
    (place ∙ sym (append_assoc front (l ∷ []) rest)) (next_row front l i index)
    of_rule (All-back P (row_demands i l) (cut_demands (i + 1) rest) h))

-- the rule, if it is a function, is a minimal one
rule_minimal : (rule : CutRule) (rows : List CutLine) →
    IfFunction (subject_of_rule rule) IsWithinBounds →
    All (DemandHolds (claims.Cut rule rows)) (rule_demands rule) → IsMinimalRule rule
rule_minimal (Table f) rows bounds h = (
  bounds,
  minimal_from_tests f bounds
      (All-head (DemandHolds (claims.Cut (Table f) rows)) minimal [] h),
)
rule_minimal Gmic rows bounds h = tt

pub cuts_meaning : (rule : CutRule) (rows : List CutLine) → IsBounded (claims.Cut rule rows) →
    MeetsRules (claims.Cut rule rows) →
    ClaimHolds (claims.Cut rule rows)
cuts_meaning rule rows bounds h =
    let P : Demand → Type 0 = DemandHolds (claims.Cut rule rows) in
    rows_meaning rule rows 0 [] rows refl refl
    (rule_minimal rule rows bounds.0 (All-front P (rule_demands rule) (cut_demands 0 rows) h))
    (All-back P (rule_demands rule) (cut_demands 0 rows) h)
