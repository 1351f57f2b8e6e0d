-- The demands of a claim that a function is extreme: when all hold, and which is the first that
-- fails.
use Rattle.std.proofs.Common.{◌≡◌, ◌≢◌, ◌↔◌, ℕ, ◌+◌, List, [], ◌∷◌, ◌++◌, All, length, map, get_or, refl, sym, ap, subst, ◌∙◌}
use Rattle.std.specs.List.{range_with_len}
use Rattle.std.proofs.lemmas.List.Elements.{All-nil, All-cons, All-append}
use Rattle.gj_lemmas.proofs.FirstThatFails.{first_failing_in_map, first_failing_in_range}
use Rattle.gj_lemmas.proofs.Lists.{All-made}
use Rattle.gj_shape.specs.Additive.{IsTight}
use Rattle.gj_shape.specs.Cover.{components_in}
use Rattle.gj_shape.specs.FunctionData.{FunctionData, IsWithinBounds, IsContinuous}
use Rattle.gj_shape.specs.FirstViolation.{PassesAll}
use Rattle.gj_shape.specs.declared.extremality.CoverLine.{CoverLine}
use Rattle.gj_theory.specs.CoverRules.{MeetsCoverRules}
use Rattle.gj_theory.proofs.LineComponents.{one_component}
use Rattle.gj_proof.specs.declared.claim.Claim.{Claim}
use Rattle.gj_proof.specs.declared.numbers.Numbers.{Numbers}
use Rattle.gj_proof.specs.declared.numbers.Numbers.TheVariants.{Whole, Residues}
use Rattle.gj_proof.specs.declared.pivot.PivotRow.{PivotRow}
use Rattle.gj_proof.specs.ProofText.{ProofLine, extreme_claim, modulus_lines, IsPivotRowBelow, group_lines, HasNumber}
use Rattle.gj_proof.specs.Rules.{Demand, group_demands_by, extreme_demands, demands_of, line_of_demand, DemandHolds, MeetsRules}
use Rattle.gj_proof.specs.Rules.Demand.{minimal, continuous, cover, row, reduce, size, pivot, rank}
use Rattle.gj_proof.proofs.LineNumbers.{number_of_claim}
use Rattle.gj_check_groups.specs.declared.failure.GroupRule.{GroupRule}
use Rattle.gj_check_groups.specs.declared.failure.GroupFailure.{GroupFailure}
use Rattle.gj_check_groups.specs.Groups.{GroupHolds, IsRuleOf, IsFirstGroupFailure}
use Rattle.gj_check_groups.proofs.ClaimGroups.{IsNumbering, groups_hold, groups_fail}
use Rattle.gj_check.specs.declared.rules.CheckRule.{CheckRule}
use Rattle.gj_check.specs.declared.rules.CheckRule.TheVariants as rules
use Rattle.gj_check.specs.declared.cover_lines.Components.{Components}
use Rattle.gj_check.specs.CoverLines.{MeetsCover, AreComponentsOf, IsFirstBroken}
use Rattle.gj_check.specs.FirstFailure.{rule_of, IsFirstFailure}
use Rattle.gj_check.specs.GroupRules.{rule_on_groups}
use Rattle.gj_check.proofs.FirstDemand.{FirstFails, fails_here, fails_behind, fails_next, fails_in_front, failure_of}
use Rattle.gj_proof.proofs.AtPlaces.{split_there}
use Rattle.gj_check.proofs.OwnLineNumbers.{number_of_cover, number_behind_groups}

-- a demand on what shows that a function is extreme holds
abbrev holds : Numbers → FunctionData → List CoverLine → List PivotRow → Demand → Type 0
holds n f lines rows = DemandHolds (extreme_claim n f lines rows)

-- ---- cover lines

abbrev cover_demands : List CoverLine → List Demand
cover_demands lines = map cover (range_with_len 0 (length lines))

-- the demands behind the first two
abbrev extreme_rest : Numbers → List CoverLine → List PivotRow → List Demand
extreme_rest n lines rows = cover_demands lines ++ group_demands_by n 0 rows ++ rank ∷ []

-- what the demands of the claim that are not on its groups say
pub record Says (n : Numbers) (f : FunctionData) (lines : List CoverLine) (rows : List PivotRow) :
    Type 0 where
  pub demands : demands_of (extreme_claim n f lines rows) ≡ extreme_demands n lines rows
  pub is_minimal : PassesAll f ↔ DemandHolds (extreme_claim n f lines rows) minimal
  pub continuity : IsContinuous f ↔ DemandHolds (extreme_claim n f lines rows) continuous
  pub meets_cover : (i : ℕ) →
      MeetsCover f lines i ↔ DemandHolds (extreme_claim n f lines rows) (cover i)
  pub has_rank : (length rows ≡ components_in lines)
      ↔ DemandHolds (extreme_claim n f lines rows) rank

pub says : (n : Numbers) (f : FunctionData) (lines : List CoverLine) (rows : List PivotRow) →
    Says n f lines rows
says Whole f lines rows = record {
  demands = refl;
  is_minimal = (λ h. h, λ h. h);
  continuity = (λ h. h, λ h. h);
  meets_cover = λ i. (λ h. h, λ h. h);
  has_rank = (λ h. h, λ h. h);
}
says Residues f lines rows = record {
  demands = refl;
  is_minimal = (λ h. h, λ h. h);
  continuity = (λ h. h, λ h. h);
  meets_cover = λ i. (λ h. h, λ h. h);
  has_rank = (λ h. h, λ h. h);
}

-- the first of the demands that fails
fails_first : (n : Numbers) (f : FunctionData) (lines : List CoverLine) (rows : List PivotRow)
    (l : ProofLine) (r : CheckRule) (k : ℕ) →
    FirstFails (holds n f lines rows) (minimal ∷ continuous ∷ extreme_rest n lines rows) l
    r →
    HasNumber (extreme_claim n f lines rows) l k → IsFirstFailure (extreme_claim n f lines rows) k r
fails_first n f lines rows l r k h number =
    failure_of (extreme_claim n f lines rows) l r k
    (subst (λ ds. FirstFails (holds n f lines rows) ds l r)
    (sym (says n f lines rows).demands) h) number

covers_hold : (n : Numbers) (f : FunctionData) (lines : List CoverLine) (rows : List PivotRow) →
    ((i : ℕ) → MeetsCover f lines i) →
    All (holds n f lines rows) (cover_demands lines)
covers_hold n f lines rows h = All-made (holds n f lines rows) cover 0
    (length lines) (λ i below. ((says n f lines rows).meets_cover i).0 (h i))

cover_breaks : (n : Numbers) (f : FunctionData) (lines : List CoverLine) (rows : List PivotRow)
    (i : ℕ) → IsFirstBroken f lines i →
    FirstFails (holds n f lines rows) (cover_demands lines)
    (ProofLine.covered i) rules.Cover
cover_breaks n f lines rows i h =
    let P = holds n f lines rows in
    let split = split_there lines i h.within in
    let all = says n f lines rows in
    record {
      before = map cover (range_with_len 0 i);
      demand = cover i;
      first = first_failing_in_map P cover (range_with_len 0 (length lines)) (range_with_len 0 i) i
          (first_failing_in_range (λ j. P (cover j)) i (length lines) h.within
          (λ j low. (all.meets_cover j).0 (h.before j low))
          (λ meets. h.here split.before split.item split.after split.place split.index
          ((all.meets_cover i).1 meets split.before split.item split.after split.place
          split.index)));
      line_is = refl;
      rule_is = refl;
    }

-- the numbers of components, for the groups
pub numbering : (f : FunctionData) (lines : List CoverLine) (c : Components) →
    ((i : ℕ) → MeetsCover f lines i) → AreComponentsOf f lines c →
    IsNumbering f lines (λ i. get_or c.number.items i 0) c.count
numbering f lines c meet h =
    let rules : MeetsCoverRules f.order (IsTight f) lines =
    λ before l after place. meet (length before) before l after place refl in
    record {
      numbers = h.numbers;
      only = λ other are i low.
          one_component f.order (IsTight f) lines i (other i) (get_or c.number.items i 0) rules
          (are i low) (h.numbers i low);
      count = h.count;
    }

-- ---- an extreme function

-- behind the two first demands
pub behind_two : (c : Claim) (more : List Demand) (l : ProofLine) (r : CheckRule) →
    DemandHolds c minimal → DemandHolds c continuous → FirstFails (DemandHolds c) more l r →
    FirstFails (DemandHolds c) (minimal ∷ continuous ∷ more) l r
behind_two c more l r is_minimal is_continuous h =
    fails_next (DemandHolds c) minimal (continuous ∷ more) l r is_minimal
    (fails_next (DemandHolds c) continuous more l r is_continuous h)

pub extreme_not_minimal : (n : Numbers) (f : FunctionData) (lines : List CoverLine)
    (rows : List PivotRow) → (PassesAll f → ⊥) →
    IsFirstFailure (extreme_claim n f lines rows) 2 rules.Minimal
extreme_not_minimal n f lines rows fails =
    let c = extreme_claim n f lines rows in
    let P = holds n f lines rows in
    fails_first n f lines rows ProofLine.claim rules.Minimal 2
    (fails_here P minimal (continuous ∷ extreme_rest n lines rows)
    (λ h. fails ((says n f lines rows).is_minimal.1 h))) (number_of_claim c)

pub extreme_not_continuous : (n : Numbers) (f : FunctionData) (lines : List CoverLine)
    (rows : List PivotRow) → PassesAll f → (IsContinuous f → ⊥) →
    IsFirstFailure (extreme_claim n f lines rows) 2 rules.Continuous
extreme_not_continuous n f lines rows passes fails =
    let c = extreme_claim n f lines rows in
    let P = holds n f lines rows in
    fails_first n f lines rows ProofLine.claim rules.Continuous 2
    (fails_next P minimal (continuous ∷ extreme_rest n lines rows) ProofLine.claim rules.Continuous
    ((says n f lines rows).is_minimal.0 passes)
    (fails_here P continuous (extreme_rest n lines rows)
    (λ h. fails ((says n f lines rows).continuity.1 h))))
    (number_of_claim c)

pub extreme_cover_broken : (n : Numbers) (f : FunctionData) (lines : List CoverLine)
    (rows : List PivotRow) (i : ℕ) → PassesAll f → IsContinuous f →
    IsFirstBroken f lines i →
    IsFirstFailure (extreme_claim n f lines rows) (f.order + 5 + i) rules.Cover
extreme_cover_broken n f lines rows i passes is_continuous h =
    let c = extreme_claim n f lines rows in
    let P = holds n f lines rows in
    let l = ProofLine.covered i in
    fails_first n f lines rows l rules.Cover (f.order + 5 + i)
    (behind_two c (extreme_rest n lines rows) l rules.Cover
    ((says n f lines rows).is_minimal.0 passes)
    ((says n f lines rows).continuity.0 is_continuous)
    (fails_in_front P (cover_demands lines ++ group_demands_by n 0 rows) (rank ∷ []) l rules.Cover
    (fails_in_front P (cover_demands lines) (group_demands_by n 0 rows) l rules.Cover
    (cover_breaks n f lines rows i h))))
    (number_of_cover n f lines rows i h.within)

-- the rule of a demand on groups
pub rule_named : (rule : GroupRule) (d : Demand) → IsRuleOf rule d → rule_on_groups rule ≡ rule_of d
rule_named rule (row g) e = ap rule_on_groups e
rule_named rule (reduce g r) e = ap rule_on_groups e
rule_named rule (size g r) e = ap rule_on_groups e
rule_named rule (pivot g) e = ap rule_on_groups e
rule_named rule _ e = absurd e

pub extreme_group_fails : (n : Numbers) (f : FunctionData) (lines : List CoverLine)
    (rows : List PivotRow) (components : Components) (failure : GroupFailure) →
    IsWithinBounds f → PassesAll f → IsContinuous f → All (IsPivotRowBelow f.order) rows →
    ((i : ℕ) → MeetsCover f lines i) →
    AreComponentsOf f lines components →
    IsFirstGroupFailure n f (λ i. get_or components.number.items i 0) components.count rows
    failure →
    IsFirstFailure (extreme_claim n f lines rows)
    (f.order + length lines + 5 + length (modulus_lines n) + failure.below)
    (rule_on_groups failure.rule)
extreme_group_fails n f lines rows components failure l passes is_continuous below meet are h =
    let c = extreme_claim n f lines rows in
    let P = holds n f lines rows in
    let r = rule_on_groups failure.rule in
    let group = groups_fail n f lines (λ i. get_or components.number.items i 0) components.count
    rows failure
    (numbering f lines components meet are) l below h in
    let here : FirstFails P (group_demands_by n 0 rows) (line_of_demand group.demand) r = record {
      before = group.before;
      demand = group.demand;
      first = group.first;
      line_is = refl;
      rule_is = rule_named failure.rule group.demand group.rule_is;
    } in
    fails_first n f lines rows (line_of_demand group.demand) r
    (f.order + length lines + 5 + length (modulus_lines n) + failure.below)
    (behind_two c (extreme_rest n lines rows) (line_of_demand group.demand) r
    ((says n f lines rows).is_minimal.0 passes)
    ((says n f lines rows).continuity.0 is_continuous)
    (fails_in_front P (cover_demands lines ++ group_demands_by n 0 rows) (rank ∷ [])
    (line_of_demand group.demand) r
    (fails_behind P (cover_demands lines) (group_demands_by n 0 rows)
    (line_of_demand group.demand) r (covers_hold n f lines rows meet) here)))
    group.number

-- all demands before the last
groups_met : (n : Numbers) (f : FunctionData) (lines : List CoverLine) (rows : List PivotRow)
    (components : Components) →
    IsWithinBounds f → All (IsPivotRowBelow f.order) rows → ((i : ℕ) → MeetsCover f lines i) →
    AreComponentsOf f lines components →
    All (GroupHolds n f (λ i. get_or components.number.items i 0) components.count rows)
    (group_demands_by n 0 rows) →
    All (holds n f lines rows)
    (cover_demands lines ++ group_demands_by n 0 rows)
groups_met n f lines rows components l below meet are h =
    All-append (holds n f lines rows) (cover_demands lines)
    (group_demands_by n 0 rows) (covers_hold n f lines rows meet)
    (groups_hold n f lines (λ i. get_or components.number.items i 0) components.count rows
    (numbering f lines components meet are) l below h)

pub extreme_rank_fails : (n : Numbers) (f : FunctionData) (lines : List CoverLine)
    (rows : List PivotRow) (components : Components) →
    IsWithinBounds f → PassesAll f → IsContinuous f → All (IsPivotRowBelow f.order) rows →
    ((i : ℕ) → MeetsCover f lines i) →
    AreComponentsOf f lines components →
    All (GroupHolds n f (λ i. get_or components.number.items i 0) components.count rows)
    (group_demands_by n 0 rows) →
    (length rows ≢ components.count) →
    IsFirstFailure (extreme_claim n f lines rows)
    (f.order + 5 + length lines + length (modulus_lines n) + length (group_lines 0 rows))
    rules.Rank
extreme_rank_fails n f lines rows components l passes is_continuous below meet are h other =
    let c = extreme_claim n f lines rows in
    let P = holds n f lines rows in
    fails_first n f lines rows ProofLine.last rules.Rank
    (f.order + 5 + length lines + length (modulus_lines n) + length (group_lines 0 rows))
    (behind_two c (extreme_rest n lines rows) ProofLine.last rules.Rank
    ((says n f lines rows).is_minimal.0 passes)
    ((says n f lines rows).continuity.0 is_continuous)
    (fails_behind P (cover_demands lines ++ group_demands_by n 0 rows)
    (rank ∷ []) ProofLine.last rules.Rank
    (groups_met n f lines rows components l below meet are h)
    (fails_here P rank [] (λ full. other ((says n f lines rows).has_rank.1 full ∙ sym are.count)))))
    (number_behind_groups n f lines rows)

pub extreme_meets : (n : Numbers) (f : FunctionData) (lines : List CoverLine) (rows : List PivotRow)
    (components : Components) →
    IsWithinBounds f → PassesAll f → IsContinuous f → All (IsPivotRowBelow f.order) rows →
    ((i : ℕ) → MeetsCover f lines i) →
    AreComponentsOf f lines components →
    All (GroupHolds n f (λ i. get_or components.number.items i 0) components.count rows)
    (group_demands_by n 0 rows) →
    length rows ≡ components.count → MeetsRules (extreme_claim n f lines rows)
extreme_meets n f lines rows components l passes is_continuous below meet are h full =
    let P = holds n f lines rows in
    let all = says n f lines rows in
    subst (All P) (sym all.demands)
    (All-cons P minimal (continuous ∷ extreme_rest n lines rows) (all.is_minimal.0 passes)
    (All-cons P continuous (extreme_rest n lines rows) (all.continuity.0 is_continuous)
    (All-append P (cover_demands lines ++ group_demands_by n 0 rows) (rank ∷ [])
    (groups_met n f lines rows components l below meet are h)
    (All-cons P rank [] (all.has_rank.0 (full ∙ are.count)) (All-nil P)))))
