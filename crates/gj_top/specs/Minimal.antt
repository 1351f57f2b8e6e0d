-- The command `minimal`: a function is answered with the proof text of a verdict on minimality
-- (own).
use Rattle.std.specs.Prelude.{ℕ, ◌⊎◌, Bool, List}
use Rattle.gj_shape.specs.FunctionData.{FunctionData}
use Rattle.gj_shape.specs.Table.{IsMinimal}
use Rattle.gj_shape.specs.Violation.{ShowsViolation}
use Rattle.gj_shape.specs.FirstViolation.{IsFirstViolation}
use Rattle.gj_shape.specs.declared.violations.Violation.{Violation}
use Rattle.gj_proof.specs.declared.claim.Claim.TheVariants.{Minimal, NotMinimal}
use Rattle.gj_proof.specs.ProofText.{IsProofText}
use Rattle.gj_proof.specs.Rules.{MeetsRules}
use Rattle.gj_top.specs.Promise.{Promise}
use Rattle.gj_top.specs.Task.{Task, EndsDone}
use Rattle.gj_top.specs.Report.{proof_promise, proof_task}

-- the text claims that f is minimal
abbrev pub IsMinimalText : FunctionData → List ℕ → Type 0
IsMinimalText f text = IsProofText (Minimal f) text

-- the text claims that f is not minimal, as the violation shows
abbrev pub IsNotMinimalText : FunctionData → Violation → List ℕ → Type 0
IsNotMinimalText f v text = IsProofText (NotMinimal f v) text

-- the text calls f minimal if it is, its table on every grid, and otherwise gives the first
-- violation; every rule of the checker holds of the claim
abbrev pub IsVerdict : FunctionData → List ℕ → Type 0
IsVerdict f text =
    (IsMinimal f × MeetsRules (Minimal f) × IsMinimalText f text)
    ⊎ ((v : Violation) × IsFirstViolation f v × ShowsViolation f v × MeetsRules (NotMinimal f v)
    × IsNotMinimalText f v text)

-- the headline: the text calls f minimal, and then its table on every grid of order a multiple of
-- its own is minimal; or it calls f not minimal, with a violation that shows it, and it is not
abbrev pub IsTrueVerdict : FunctionData → List ℕ → Type 0
IsTrueVerdict f text =
    (IsMinimalText f text × IsMinimal f)
    ⊎ ((v : Violation) × IsNotMinimalText f v text × ShowsViolation f v × (IsMinimal f → ⊥))

abbrev pub minimal_promise : Bool → Promise
minimal_promise json = proof_promise json IsTrueVerdict

abbrev pub minimal : Bool → Task
minimal json = proof_task json IsTrueVerdict (EndsDone IsVerdict)
