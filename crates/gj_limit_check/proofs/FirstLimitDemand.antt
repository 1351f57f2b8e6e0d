-- The first demand on a claim about a function that may jump that fails.
use Rattle.std.proofs.Common.{◌≡◌, ℕ, All, Result, Ok, Err, IfErr, MatchResult, sym, ap, subst, ◌∙◌}
use Rattle.gj_lemmas.proofs.FirstThatFails.{one_first_failing, first_failing_denies_all}
use Rattle.gj_lemmas.proofs.Lists.{All-front}
use Rattle.gj_proof.specs.ProofText.{ProofLine}
use Rattle.gj_proof.specs.Rules.{line_of_demand}
use Rattle.gj_check.specs.declared.faults.CheckFault.{CheckFault}
use Rattle.gj_check.specs.declared.faults.CheckFault.TheVariants.{Rejected, Memory}
use Rattle.gj_check.specs.declared.rules.CheckRule.{CheckRule}
use Rattle.gj_check.specs.FirstFailure.{rule_of}
use Rattle.gj_check.proofs.FirstDemand.{FirstFails}
use Rattle.gj_limit_proof.specs.declared.claim.LimitClaim.{LimitClaim}
use Rattle.gj_limit_proof.specs.LimitRules.{demands_of, DemandHolds, MeetsLimitRules}
use Rattle.gj_limit_proof.specs.LimitText.{HasNumber}
use Rattle.gj_limit_check.specs.FirstFailure.{IsFirstLimitFailure, IsLimitFaultOf, IsWantOfLimitMemory}
use Rattle.gj_limit_proof.proofs.LimitLineNumbers.{one_number}

-- ---- one first failure

pub one_failure : (c : LimitClaim) (n m : ℕ) (rule other : CheckRule) →
    IsFirstLimitFailure c n rule →
    IsFirstLimitFailure c m other → (n ≡ m) × (rule ≡ other)
one_failure c n m rule other h k =
    let same = (one_first_failing (All (DemandHolds c)) (All-front (DemandHolds c))
    (demands_of c) h.before k.before h.demand k.demand h.first k.first).1 in (
      one_number c (line_of_demand k.demand) n m
          (subst (λ d. HasNumber c (line_of_demand d) n) same h.number) k.number,
      h.rule_is ∙ ap rule_of same ∙ sym k.rule_is,
    )

-- if every rule holds, none fails
pub no_failure : (c : LimitClaim) (n : ℕ) (rule : CheckRule) → IsFirstLimitFailure c n rule →
    MeetsLimitRules c → ⊥
no_failure c n rule h rules =
    first_failing_denies_all (DemandHolds c) (demands_of c) h.before h.demand h.first rules

-- a check that names the first that fails accepts if every rule holds, unless there is no memory
pub accepted_unless : {X : Type 0} (c : LimitClaim) (r : Result X CheckFault) →
    IfErr r (IsLimitFaultOf c) → MeetsLimitRules c →
    MatchResult r (λ _. Unit {0}) (IsWantOfLimitMemory c)
accepted_unless c (Ok x) h rules = tt
accepted_unless c (Err (Rejected n rule)) h rules = absurd (no_failure c n rule h rules)
accepted_unless c (Err (Memory e)) h rules = h

-- ---- the line and the rule of the first demand that fails

pub failure_of : (c : LimitClaim) (l : ProofLine) (r : CheckRule) (n : ℕ) →
    FirstFails (DemandHolds c) (demands_of c) l r → HasNumber c l n →
    IsFirstLimitFailure c n r
failure_of c l r n h number = record {
  before = h.before;
  demand = h.demand;
  first = h.first;
  rule_is = h.rule_is;
  number = subst (λ k. HasNumber c k n) (sym h.line_is) number;
}
