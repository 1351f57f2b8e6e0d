-- The first rule that fails of a proof about a function that may jump, and its line in the text
-- (own).
use Rattle.std.specs.Prelude.{ℕ, ◌≡◌, List, All}
use Rattle.gj_lemmas.specs.FirstThatFails.{IsFirstFailing}
use Rattle.gj_proof.specs.Rules.{Demand, line_of_demand}
use Rattle.gj_check.specs.declared.faults.CheckFault.{CheckFault}
use Rattle.gj_check.specs.declared.faults.CheckFault.TheVariants.{Rejected, Memory}
use Rattle.gj_check.specs.declared.rules.CheckRule.{CheckRule}
use Rattle.gj_check.specs.FirstFailure.{rule_of}
use Rattle.gj_limit_proof.specs.declared.claim.LimitClaim.{LimitClaim}
use Rattle.gj_limit_proof.specs.declared.claim.LimitClaim.TheVariants.{Extreme, NotExtreme}
use Rattle.gj_limit_proof.specs.LimitRules.{demands_of, DemandHolds}
use Rattle.gj_limit_proof.specs.LimitText.{HasNumber}

-- the first demand of the claim that fails has this rule, and is written with the n-th line
pub record IsFirstLimitFailure (c : LimitClaim) (n : ℕ) (rule : CheckRule) : Type 0 where
  pub before : List Demand
  pub demand : Demand
  pub first : IsFirstFailing (All (DemandHolds c)) (demands_of c) before demand
  pub rule_is : rule ≡ rule_of demand
  pub number : HasNumber c (line_of_demand demand) n

-- the check that a function is extreme takes memory, and that it is not takes none
abbrev pub TakesLimitMemory : LimitClaim → Type 0
TakesLimitMemory (Extreme numbers f lines rows) = Unit {0}
TakesLimitMemory (NotExtreme f h) = ⊥

-- the fault is the first rule that fails
abbrev pub IsRejectionOf : LimitClaim → CheckFault → Type 0
IsRejectionOf c (Rejected n rule) = IsFirstLimitFailure c n rule
IsRejectionOf c (Memory e) = ⊥

-- or, if the check takes memory, the want of it
abbrev pub IsLimitFaultOf : LimitClaim → CheckFault → Type 0
IsLimitFaultOf c (Rejected n rule) = IsFirstLimitFailure c n rule
IsLimitFaultOf c (Memory e) = TakesLimitMemory c

-- the fault is want of memory, if the check takes some
abbrev pub IsWantOfLimitMemory : LimitClaim → CheckFault → Type 0
IsWantOfLimitMemory c (Rejected n rule) = ⊥
IsWantOfLimitMemory c (Memory e) = TakesLimitMemory c
