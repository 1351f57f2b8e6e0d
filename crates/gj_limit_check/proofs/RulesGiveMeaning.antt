-- If every rule holds, so does what the claim says.
use Rattle.std.proofs.Common.{Result, OnOk}
use Rattle.std.proofs.lemmas.Result.{on_ok_weaker}
use Rattle.gj_limit_proof.specs.declared.claim.LimitClaim.{LimitClaim}
use Rattle.gj_limit_proof.specs.declared.claim.LimitClaim.TheVariants.{Extreme, NotExtreme}
use Rattle.gj_limit_proof.specs.LimitMeaning.{LimitClaimHolds}
use Rattle.gj_limit_proof.specs.LimitRules.{MeetsLimitRules}
use Rattle.gj_limit_proof.specs.LimitText.{IsBounded, HasText}
use Rattle.gj_limit_check.proofs.LimitHalvesMeaning.{halves_meaning}
use Rattle.gj_limit_check.proofs.LimitExtremeMeaning.{extreme_meaning}

pub meaning_of_rules : (c : LimitClaim) → IsBounded c → HasText c → MeetsLimitRules c →
    LimitClaimHolds c
meaning_of_rules (Extreme numbers f lines rows) b text rules =
    extreme_meaning numbers f lines rows b text rules
meaning_of_rules (NotExtreme f h) b text rules = halves_meaning f h b text rules

-- what an accepted claim says is true
pub accepted_holds : {E : Type 0} (c : LimitClaim) (r : Result (Unit {0}) E) → HasText c →
    OnOk r (MeetsLimitRules c) → IsBounded c →
    OnOk r (LimitClaimHolds c)
accepted_holds c r text rules b = on_ok_weaker r (meaning_of_rules c b text) rules
