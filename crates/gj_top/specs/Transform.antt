-- The commands `times`, `mirror` and `restrict`: a function text is answered with the canonical
-- text of a function that is made of its function (Gomory and Johnson 1972; the form is own).
use Rattle.std.specs.Prelude.{ℕ, ◌≡◌, ◌*◌, ◌<◌, ◌↔◌, false, List, codes, Result, Ok, Err}
use Rattle.gj_shape.specs.Limits.{greatest_order}
use Rattle.gj_shape.specs.Extreme.{IsExtreme}
use Rattle.gj_shape.specs.FunctionData.{FunctionData, IsWithinBounds, IsContinuous}
use Rattle.gj_shape.specs.Table.{IsMinimal}
use Rattle.gj_function_lines.specs.FunctionLines.{line}
use Rattle.gj_function_text.specs.FunctionText.{IsCanonicalText}
use Rattle.gj_transform.specs.declared.faults.TransformFault.{TransformFault}
use Rattle.gj_transform.specs.declared.faults.TransformFault.TheVariants as fault
use Rattle.gj_transform.specs.Transforms.{IsTimesOf, IsMirrorOf, IsRestrictionOf, HasNoRestriction}
use Rattle.gj_limit_averages.specs.Averages.{IsExtremeFunction}
use Rattle.gj_top.specs.declared.reply.End.{End}
use Rattle.gj_top.specs.declared.reply.End.TheVariants.{Done, OrderLimit, BadOrder}
use Rattle.gj_top.specs.Promise.{Promise}
use Rattle.gj_top.specs.Task.{Task, EndsDone}
use Rattle.gj_top.specs.Forms.{function_promise, function_task}
use Rattle.gj_top.specs.Continuity.{IsContinuousReply}

-- the reply to what came of making a function
abbrev pub IsMadeReply : Result FunctionData TransformFault → End → List ℕ → Type 0
IsMadeReply (Ok g) Done text = IsCanonicalText text g
IsMadeReply (Err fault.OrderLimit) OrderLimit text = text ≡ line (codes "order limit")
IsMadeReply (Err fault.BadOrder) BadOrder text = text ≡ line (codes "bad order")
IsMadeReply made end text = ⊥

-- ---- times

-- the text is that of the function of n x with the place (f + j)/n, which is within the limits, and
-- minimal exactly if the function is
pub record IsTimesText (n j : ℕ) (f : FunctionData) (text : List ℕ) : Type 0 where
  pub function : FunctionData
  pub is_times : IsTimesOf f n j function
  pub within : IsWithinBounds function
  pub minimal : IsMinimal f ↔ IsMinimal function
  pub spelled : IsCanonicalText text function

-- its order is at most 1,000; and else that is said
abbrev pub IsTimesReply : ℕ → ℕ → FunctionData → End → List ℕ → Type 0
IsTimesReply n j f Done text = IsTimesText n j f text
IsTimesReply n j f OrderLimit text = (greatest_order < f.order * n)
    × (text ≡ line (codes "order limit"))
IsTimesReply n j f end text = ⊥

abbrev pub times_promise : ℕ → ℕ → Promise
times_promise n j = function_promise false (IsTimesText n j)

abbrev pub times : ℕ → ℕ → Task
times n j = function_task false (IsTimesText n j) (IsTimesReply n j)

-- ---- mirror

-- the text is that of the function of -x with the place 1 - f, which is within the limits, and
-- minimal, and extreme, exactly if the function is: by tables, and as one that may jump
pub record IsMirrorText (f : FunctionData) (text : List ℕ) : Type 0 where
  pub function : FunctionData
  pub is_mirror : IsMirrorOf f function
  pub within : IsWithinBounds function
  pub minimal : IsMinimal f ↔ IsMinimal function
  pub extreme : IsExtreme f ↔ IsExtreme function
  pub extreme_with_jumps : IsExtremeFunction f ↔ IsExtremeFunction function
  pub spelled : IsCanonicalText text function

abbrev pub mirror_promise : Promise
mirror_promise = function_promise false IsMirrorText

abbrev pub mirror : Task
mirror = function_task false IsMirrorText (EndsDone IsMirrorText)

-- ---- restrict

-- the function is continuous, and the text is that of the continuous function of order d with its
-- values at the multiples of 1/d, which is within the limits, and minimal if the function is
pub record IsRestrictionText (d : ℕ) (f : FunctionData) (text : List ℕ) : Type 0 where
  pub continuous : IsContinuous f
  pub function : FunctionData
  pub is_restriction : IsRestrictionOf f d function
  pub within : IsWithinBounds function
  pub minimal : IsMinimal f → IsMinimal function
  pub spelled : IsCanonicalText text function

-- if a continuous function has no restriction of order d, that is said
abbrev pub IsRestrictionReply : ℕ → FunctionData → End → List ℕ → Type 0
IsRestrictionReply d f Done text = IsRestrictionText d f text
IsRestrictionReply d f BadOrder text = HasNoRestriction f d × (text ≡ line (codes "bad order"))
IsRestrictionReply d f end text = ⊥

abbrev pub restriction_promise : ℕ → Promise
restriction_promise d = function_promise false (IsRestrictionText d)

abbrev pub restriction : ℕ → Task
restriction d = function_task false (IsRestrictionText d) (IsContinuousReply (IsRestrictionReply d))
