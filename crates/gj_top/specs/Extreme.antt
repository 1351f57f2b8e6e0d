-- The command `extreme`: a function is answered with the proof text of a verdict on extremality
-- (own).
use Rattle.std.specs.Prelude.{ℕ, ◌≡◌, ◌⊎◌, Bool, List, codes}
use Rattle.gj_shape.specs.FunctionData.{FunctionData, IsContinuous}
use Rattle.gj_shape.specs.Table.{IsMinimal}
use Rattle.gj_shape.specs.Extreme.{IsExtreme}
use Rattle.gj_shape.specs.Violation.{ShowsViolation}
use Rattle.gj_shape.specs.declared.violations.Violation.{Violation}
use Rattle.gj_shape.specs.declared.extremality.CoverLine.{CoverLine}
use Rattle.gj_shape.specs.declared.extremality.Halves.{Halves}
use Rattle.gj_function_lines.specs.FunctionLines.{line}
use Rattle.gj_proof.specs.declared.pivot.PivotRow.{PivotRow}
use Rattle.gj_proof.specs.declared.claim.Claim.{Claim}
use Rattle.gj_proof.specs.declared.claim.Claim.TheVariants.{NotExtreme}
use Rattle.gj_proof.specs.declared.numbers.Numbers.{Numbers}
use Rattle.gj_proof.specs.ProofText.{IsProofText, extreme_claim}
use Rattle.gj_proof.specs.Meaning.{ClaimHolds, ShowHalves}
use Rattle.gj_proof.specs.Rules.{MeetsRules}
use Rattle.gj_top.specs.Continuity.{NamesFirstJump}
use Rattle.gj_extreme.specs.Decision.{IsDecided, IsTooWide}
use Rattle.gj_top.specs.declared.reply.End.{End}
use Rattle.gj_top.specs.declared.reply.End.TheVariants.{Done, Wide, NotContinuous}
use Rattle.gj_top.specs.Promise.{Promise}
use Rattle.gj_top.specs.Task.{Task}
use Rattle.gj_top.specs.Report.{proof_promise, proof_task}
use Rattle.gj_top.specs.Minimal.{IsNotMinimalText}

-- the text is the proof text of what the decision gives of f: a claim that holds, and that meets
-- every rule of the checker
pub record IsDecisionText (f : FunctionData) (text : List ℕ) : Type 0 where
  pub claim : Claim
  pub decided : IsDecided f claim
  pub rules : MeetsRules claim
  pub holds : ClaimHolds claim
  pub spelled : IsProofText claim text

-- the line of a function of which a number of the decision is too wide
abbrev pub wide_line : List ℕ
wide_line = line (codes "wide")

-- f is minimal and jumps, and the text names its first jump
abbrev pub IsJumpText : FunctionData → List ℕ → Type 0
IsJumpText f text = IsMinimal f × NamesFirstJump f text

-- f is minimal and continuous, and a number of the decision is too wide
abbrev pub IsWideText : FunctionData → List ℕ → Type 0
IsWideText f text = IsMinimal f × IsContinuous f × IsTooWide f × (text ≡ wide_line)

-- the reply to a function, by its end
abbrev pub IsExtremality : FunctionData → End → List ℕ → Type 0
IsExtremality f Done text = IsDecisionText f text
IsExtremality f NotContinuous text = IsJumpText f text
IsExtremality f Wide text = IsWideText f text
IsExtremality f end text = ⊥

-- the text claims that f is extreme, by cover lines and rows, of whole numbers or over residues
abbrev pub IsExtremeText : FunctionData → List ℕ → Type 0
IsExtremeText f text =
    (numbers : Numbers) × (lines : List CoverLine) × (rows : List PivotRow)
    × IsProofText (extreme_claim numbers f lines rows) text

-- the text claims that f is not extreme, and gives the halves
abbrev pub IsNotExtremeText : FunctionData → Halves → List ℕ → Type 0
IsNotExtremeText f h text = IsProofText (NotExtreme f h) text

-- the headline: the text calls f extreme, and then each of its tables is minimal and no average of
-- two different minimal tables; or it calls f not extreme, with two different minimal tables that
-- average to its own, and it is not; or not minimal, with a violation that shows it, and it is not
abbrev pub IsTrueExtremality : FunctionData → List ℕ → Type 0
IsTrueExtremality f text =
    (IsExtremeText f text × IsContinuous f × IsExtreme f)
    ⊎ ((h : Halves) × IsNotExtremeText f h text × IsContinuous f × IsMinimal f × ShowHalves f h
    × (IsExtreme f → ⊥))
    ⊎ ((v : Violation) × IsNotMinimalText f v text × ShowsViolation f v × (IsMinimal f → ⊥))

abbrev pub extreme_promise : Bool → Promise
extreme_promise json = proof_promise json IsTrueExtremality

abbrev pub extreme : Bool → Task
extreme json = proof_task json IsTrueExtremality IsExtremality
