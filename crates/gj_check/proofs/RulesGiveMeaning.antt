-- If every rule holds, so does what the claim says.
use Rattle.std.proofs.Common.{Result, OnOk}
use Rattle.std.proofs.lemmas.Result.{on_ok_weaker}
use Rattle.gj_proof.specs.declared.claim.Claim.{Claim}
use Rattle.gj_proof.specs.declared.claim.Claim.TheVariants.{Minimal, NotMinimal, Cut, Extreme, ExtremeByResidues, NotExtreme}
use Rattle.gj_proof.specs.declared.numbers.Numbers.TheVariants.{Whole, Residues}
use Rattle.gj_proof.specs.ProofText.{IsBounded, HasText}
use Rattle.gj_proof.specs.Rules.{MeetsRules}
use Rattle.gj_proof.specs.Meaning.{ClaimHolds}
use Rattle.gj_theory.proofs.MinimalFromTests.{minimal_from_tests}
use Rattle.gj_check.proofs.DemandsOfClaims.{minimal_rules, point_rules}
use Rattle.gj_check.proofs.CutMeaning.{cuts_meaning}
use Rattle.gj_check.proofs.ExtremeMeaning.{extreme_meaning}
use Rattle.gj_check.proofs.HalvesMeaning.{halves_meaning}

pub meaning_of_rules : (c : Claim) → IsBounded c → HasText c → MeetsRules c → ClaimHolds c
meaning_of_rules (Minimal f) b text rules = minimal_from_tests f b ((minimal_rules f).1 rules)
meaning_of_rules (NotMinimal f v) b text rules = ((point_rules f v).1 rules).shown
meaning_of_rules (Cut rule rows) b text rules = cuts_meaning rule rows b rules
meaning_of_rules (Extreme f lines rows) b text rules =
    extreme_meaning Whole f lines rows b text rules
meaning_of_rules (ExtremeByResidues f lines rows) b text rules =
    extreme_meaning Residues f lines rows b text rules
meaning_of_rules (NotExtreme f h) b text rules = halves_meaning f h b text rules

-- what an accepted claim says is true
pub accepted_holds : {E : Type 0} (c : Claim) (r : Result (Unit {0}) E) → HasText c →
    OnOk r (MeetsRules c) → IsBounded c →
    OnOk r (ClaimHolds c)
accepted_holds c r text rules b = on_ok_weaker r (meaning_of_rules c b text) rules
