-- The command `faces`: a function text is answered with the maximal additive faces and the covered
-- intervals of its function; with `--jumps` those of a function that jumps are by the limits of its
-- slack.
use Rattle.std.specs.Prelude.{ℕ, ◌⊎◌, false, List}
use Rattle.gj_shape.specs.FunctionData.{FunctionData, IsContinuous}
use Rattle.gj_verdict_text.specs.FacesText.{IsFacesText}
use Rattle.gj_limit_faces_text.specs.LimitFacesText.{IsLimitFacesText}
use Rattle.gj_top.specs.Promise.{Promise}
use Rattle.gj_top.specs.Task.{Task, EndsDone}
use Rattle.gj_top.specs.Forms.{function_promise, function_task}
use Rattle.gj_top.specs.Continuity.{IsContinuousReply, Jumps}

-- the headline: the function is continuous; what the text lists is said by the reply
abbrev pub faces_promise : Promise
faces_promise = function_promise false (λ f text. IsContinuous f)

abbrev pub faces : Task
faces = function_task false (λ f text. IsContinuous f) (IsContinuousReply (EndsDone IsFacesText))

-- ---- with `--jumps`

-- the text lists the faces and intervals of f; if it jumps, by limits
abbrev pub IsJumpsFacesText : FunctionData → List ℕ → Type 0
IsJumpsFacesText f text = (IsContinuous f × IsFacesText f text)
    ⊎ (Jumps f × IsLimitFacesText f text)

-- the headline is all of that
abbrev pub faces_with_jumps_promise : Promise
faces_with_jumps_promise = function_promise false IsJumpsFacesText

abbrev pub faces_with_jumps : Task
faces_with_jumps = function_task false IsJumpsFacesText (EndsDone IsJumpsFacesText)
