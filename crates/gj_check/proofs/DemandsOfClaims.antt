-- The demands of the claims: when all hold, and which is the first that fails.
use Rattle.std.proofs.Common.{◌≡◌, ◌↔◌, ℕ, ◌+◌, [], ◌∷◌, All, Result, Ok, Err, IfErr, MatchResult, refl, sym, ap, subst, ◌∙◌}
use Rattle.std.proofs.lemmas.List.Elements.{All-nil, All-cons, All-head}
use Rattle.gj_shape.specs.FunctionData.{FunctionData}
use Rattle.gj_shape.specs.FirstViolation.{PassesAll}
use Rattle.gj_shape.specs.declared.violations.Violation.{Violation}
use Rattle.gj_lemmas.proofs.Lists.{All-front}
use Rattle.gj_lemmas.proofs.FirstThatFails.{first_failing, one_first_failing, first_failing_denies_all}
use Rattle.gj_proof.specs.declared.claim.Claim.{Claim}
use Rattle.gj_proof.specs.declared.claim.Claim.TheVariants as claim
use Rattle.gj_proof.specs.ProofText.{HasNumber}
use Rattle.gj_proof.specs.Rules.{Demand, MeetsPoint, demands_of, line_of_demand, DemandHolds, MeetsRules}
use Rattle.gj_proof.specs.Rules.Demand.{minimal, point}
use Rattle.gj_proof.proofs.LineNumbers.{one_number, number_of_claim, number_of_violation}
use Rattle.gj_check.specs.declared.rules.CheckRule.{CheckRule}
use Rattle.gj_check.specs.declared.rules.CheckRule.TheVariants.{Minimal, Point}
use Rattle.gj_check.specs.FirstFailure.{rule_of, IsFirstFailure, IsCheckFaultOf, IsWantOfMemory}
use Rattle.gj_check.specs.declared.faults.CheckFault.{CheckFault}
use Rattle.gj_check.specs.declared.faults.CheckFault.TheVariants.{Rejected, Memory}

-- ---- one first failure

pub one_failure : (c : Claim) (n m : ℕ) (rule other : CheckRule) → IsFirstFailure c n rule →
    IsFirstFailure c m other →
    (n ≡ m) × (rule ≡ other)
one_failure c n m rule other h k =
    let same = (one_first_failing (All (DemandHolds c)) (All-front (DemandHolds c))
    (demands_of c) h.before k.before h.demand k.demand h.first k.first).1 in (
      one_number c (line_of_demand k.demand) n m
          (subst (λ d. HasNumber c (line_of_demand d) n) same h.number) k.number,
      h.rule_is ∙ ap rule_of same ∙ sym k.rule_is,
    )

-- if every rule holds, none fails
pub no_failure : (c : Claim) (n : ℕ) (rule : CheckRule) → IsFirstFailure c n rule → MeetsRules c → ⊥
no_failure c n rule h rules =
    first_failing_denies_all (DemandHolds c) (demands_of c) h.before h.demand h.first rules

-- if every rule holds, a check that names the first that fails accepts, unless there is no memory
pub accepted_unless : {X : Type 0} (c : Claim) (r : Result X CheckFault) →
    IfErr r (IsCheckFaultOf c) → MeetsRules c →
    MatchResult r (λ _. Unit {0}) (IsWantOfMemory c)
accepted_unless c (Ok x) h rules = tt
accepted_unless c (Err (Rejected n rule)) h rules = absurd (no_failure c n rule h rules)
accepted_unless c (Err (Memory e)) h rules = h

-- ---- claims with one demand

pub minimal_rules : (f : FunctionData) → PassesAll f ↔ MeetsRules (claim.Minimal f)
minimal_rules f =
    let P : Demand → Type 0 = DemandHolds (claim.Minimal f) in
    (λ h. All-cons P minimal [] h (All-nil P), λ h. All-head P minimal [] h)

pub minimal_fails : (f : FunctionData) → (PassesAll f → ⊥) →
    IsFirstFailure (claim.Minimal f) 2 Minimal
minimal_fails f fails =
    let P : Demand → Type 0 = DemandHolds (claim.Minimal f) in record {
      before = [];
      demand = minimal;
      first = first_failing P (minimal ∷ []) [] [] minimal refl (All-nil P) fails;
      rule_is = refl;
      number = number_of_claim (claim.Minimal f);
    }

pub point_rules : (f : FunctionData) (v : Violation) →
    MeetsPoint f v ↔ MeetsRules (claim.NotMinimal f v)
point_rules f v =
    let P : Demand → Type 0 = DemandHolds (claim.NotMinimal f v) in
    (λ h. All-cons P point [] h (All-nil P), λ h. All-head P point [] h)

pub point_fails : (f : FunctionData) (v : Violation) → (MeetsPoint f v → ⊥) →
    IsFirstFailure (claim.NotMinimal f v) (f.order + 5) Point
point_fails f v fails =
    let P : Demand → Type 0 = DemandHolds (claim.NotMinimal f v) in record {
      before = [];
      demand = point;
      first = first_failing P (point ∷ []) [] [] point refl (All-nil P) fails;
      rule_is = refl;
      number = number_of_violation f v;
    }
