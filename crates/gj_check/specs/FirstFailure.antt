-- The first rule that fails, and its line in the proof text (own).
use Rattle.std.specs.Prelude.{ℕ, ◌≡◌, List, All}
use Rattle.gj_lemmas.specs.FirstThatFails.{IsFirstFailing}
use Rattle.gj_proof.specs.declared.claim.Claim.{Claim}
use Rattle.gj_proof.specs.declared.claim.Claim.TheVariants as claim
use Rattle.gj_proof.specs.ProofText.{HasNumber}
use Rattle.gj_proof.specs.Rules.{Demand, demands_of, line_of_demand, DemandHolds}
use Rattle.gj_proof.specs.Rules.Demand.{minimal, point, fraction, limit, term_limit, term_name, term_value, continuous, cover, row, reduce, size, pivot, rank, scale, range, average, first, second, same}
use Rattle.gj_check.specs.declared.rules.CheckRule.{CheckRule}
use Rattle.gj_check.specs.declared.rules.CheckRule.TheVariants.{Minimal, Continuous, Point, Cover, Row, Reduce, Size, Pivot, Rank, Scale, Range, Average, First, Second, Same, Fraction, Limit, Name, Value}
use Rattle.gj_check.specs.declared.faults.CheckFault.{CheckFault}
use Rattle.gj_check.specs.declared.faults.CheckFault.TheVariants.{Rejected, Memory}

-- the rule of a demand
abbrev pub rule_of : Demand → CheckRule
rule_of minimal = Minimal
rule_of point = Point
rule_of (fraction i) = Fraction
rule_of (limit i) = Limit
rule_of (term_limit i j) = Limit
rule_of (term_name i j) = Name
rule_of (term_value i j) = Value
rule_of continuous = Continuous
rule_of (cover i) = Cover
rule_of (row g) = Row
rule_of (reduce g r) = Reduce
rule_of (size g r) = Size
rule_of (pivot g) = Pivot
rule_of rank = Rank
rule_of scale = Scale
rule_of (range i) = Range
rule_of (average i) = Average
rule_of first = First
rule_of second = Second
rule_of same = Same

-- the first demand of the claim that fails has this rule, and is written with the n-th line
pub record IsFirstFailure (c : Claim) (n : ℕ) (rule : CheckRule) : Type 0 where
  pub before : List Demand
  pub demand : Demand
  pub first : IsFirstFailing (All (DemandHolds c)) (demands_of c) before demand
  pub rule_is : rule ≡ rule_of demand
  pub number : HasNumber c (line_of_demand demand) n

-- the check of a claim about cuts, or that a function is extreme or not extreme, takes memory, and
-- that of another claim none
abbrev pub TakesMemory : Claim → Type 0
TakesMemory (claim.Minimal f) = ⊥
TakesMemory (claim.NotMinimal f v) = ⊥
TakesMemory (claim.Cut rule rows) = Unit {0}
TakesMemory (claim.Extreme f lines rows) = Unit {0}
TakesMemory (claim.ExtremeByResidues f lines rows) = Unit {0}
TakesMemory (claim.NotExtreme f h) = Unit {0}

-- the fault is the first rule that fails, or, if the check takes memory, the want of it
abbrev pub IsCheckFaultOf : Claim → CheckFault → Type 0
IsCheckFaultOf c (Rejected n rule) = IsFirstFailure c n rule
IsCheckFaultOf c (Memory e) = TakesMemory c

-- the fault is want of memory, if the check takes some
abbrev pub IsWantOfMemory : Claim → CheckFault → Type 0
IsWantOfMemory c (Rejected n rule) = ⊥
IsWantOfMemory c (Memory e) = TakesMemory c
