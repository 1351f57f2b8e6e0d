-- The command `extreme` with `--jumps`: a minimal function that jumps is answered with the proof
-- text of a verdict on its extremality by the limits of its slack, and any other as without the flag
-- (own).
use Rattle.std.specs.Prelude.{ℕ, ◌≡◌, ◌⊎◌, ◌<◌, ◌≤◌, Bool, List, length}
use Rattle.gj_shape.specs.FunctionData.{FunctionData, IsContinuous}
use Rattle.gj_shape.specs.Table.{IsMinimal}
use Rattle.gj_shape.specs.declared.extremality.CoverLine.{CoverLine}
use Rattle.gj_shape.specs.declared.extremality.LimitHalves.{LimitHalves}
use Rattle.gj_proof.specs.declared.numbers.Numbers.{Numbers}
use Rattle.gj_proof.specs.ProofText.{longest_extreme_text}
use Rattle.gj_limit_averages.specs.Averages.{IsExtremeFunction}
use Rattle.gj_limit_proof.specs.declared.claim.LimitClaim.{LimitClaim}
use Rattle.gj_limit_proof.specs.declared.claim.LimitClaim.TheVariants.{Extreme, NotExtreme}
use Rattle.gj_limit_proof.specs.declared.claim.LimitPivotRow.{LimitPivotRow}
use Rattle.gj_limit_proof.specs.LimitText.{IsLimitProofText}
use Rattle.gj_limit_proof.specs.LimitMeaning.{LimitClaimHolds, ShowLimitHalves}
use Rattle.gj_limit_proof.specs.LimitRules.{MeetsLimitRules}
use Rattle.gj_limit_extreme.specs.Decision.{IsLimitDecided, IsLimitTooWide}
use Rattle.gj_top.specs.declared.reply.End.{End}
use Rattle.gj_top.specs.declared.reply.End.TheVariants.{Done, Wide, NotContinuous}
use Rattle.gj_top.specs.Promise.{Promise}
use Rattle.gj_top.specs.Task.{Task}
use Rattle.gj_top.specs.Forms.{function_promise, function_task}
use Rattle.gj_top.specs.Continuity.{Jumps}
use Rattle.gj_top.specs.Report.{limit_claims, Tells, TellsBy, IsToldReply, IsToldBy}
use Rattle.gj_top.specs.Extreme.{IsExtremality, IsTrueExtremality, wide_line}

-- ---- functions that jump

-- the text is the proof text of what the decision gives of f, which is minimal and jumps: a claim
-- that holds, and that meets every rule of the checker; and it is not too long
pub record IsLimitDecisionText (f : FunctionData) (text : List ℕ) : Type 0 where
  pub jumps : Jumps f
  pub minimal : IsMinimal f
  pub claim : LimitClaim
  pub decided : IsLimitDecided f claim
  pub rules : MeetsLimitRules claim
  pub holds : LimitClaimHolds claim
  pub spelled : IsLimitProofText claim text
  pub short : length text ≤ longest_extreme_text

-- the proof text of what the decision gives of f is longer than that
pub record HasLongProof (f : FunctionData) : Type 0 where
  pub claim : LimitClaim
  pub decided : IsLimitDecided f claim
  pub proof : List ℕ
  pub spelled : IsLimitProofText claim proof
  pub long : longest_extreme_text < length proof

-- f is minimal and jumps, and a number of the decision is too wide, or its proof text too long
pub record IsLimitWideText (f : FunctionData) (text : List ℕ) : Type 0 where
  pub jumps : Jumps f
  pub minimal : IsMinimal f
  pub wide : IsLimitTooWide f ⊎ HasLongProof f
  pub spelled : text ≡ wide_line

-- the reply to a minimal function that jumps, by its end
abbrev pub IsLimitExtremality : FunctionData → End → List ℕ → Type 0
IsLimitExtremality f Done text = IsLimitDecisionText f text
IsLimitExtremality f Wide text = IsLimitWideText f text
IsLimitExtremality f end text = ⊥

-- the text claims that f is extreme, by cover lines and rows of limits
abbrev pub IsLimitExtremeText : FunctionData → List ℕ → Type 0
IsLimitExtremeText f text =
    (numbers : Numbers) × (lines : List CoverLine) × (rows : List LimitPivotRow)
    × IsLimitProofText (Extreme numbers f lines rows) text

-- the text claims that f is not extreme, and gives the halves
abbrev pub IsLimitNotExtremeText : FunctionData → LimitHalves → List ℕ → Type 0
IsLimitNotExtremeText f h text = IsLimitProofText (NotExtreme f h) text

-- f jumps, and the text calls it extreme, and then it is minimal and no average of two different
-- minimal functions; or it calls it not extreme, with two different minimal functions that average
-- to it, and it is not
abbrev pub IsTrueLimitExtremality : FunctionData → List ℕ → Type 0
IsTrueLimitExtremality f text =
    (IsLimitExtremeText f text × Jumps f × IsExtremeFunction f)
    ⊎ ((h : LimitHalves) × IsLimitNotExtremeText f h text × Jumps f × IsMinimal f
    × ShowLimitHalves f h × (IsExtremeFunction f → ⊥))

-- ---- the command

-- the reply to a function: as without the flag, or by limits; and never that it jumps
abbrev pub IsJumpsExtremality : Bool → FunctionData → End → List ℕ → Type 0
IsJumpsExtremality json f NotContinuous text = ⊥
IsJumpsExtremality json f end text =
    IsToldReply json IsExtremality f end text
    ⊎ IsToldBy limit_claims json IsLimitExtremality f end text

-- the headline: that of `extreme`, or the same by limits
abbrev pub IsTrueJumpsExtremality : Bool → FunctionData → List ℕ → Type 0
IsTrueJumpsExtremality json f text =
    Tells json (IsTrueExtremality f) text
    ⊎ TellsBy limit_claims json (IsTrueLimitExtremality f) text

abbrev pub extreme_with_jumps_promise : Bool → Promise
extreme_with_jumps_promise json = function_promise json (IsTrueJumpsExtremality json)

abbrev pub extreme_with_jumps : Bool → Task
extreme_with_jumps json = function_task json (IsTrueJumpsExtremality json) (IsJumpsExtremality json)
