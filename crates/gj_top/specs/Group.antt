-- The command `group`: a function text is answered with a verdict on the table of the function's
-- own order, the finite master problem of that order (Gomory and Johnson 1972; the form is own).
use Rattle.std.specs.Prelude.{ℕ, ◌≡◌, ◌<◌, ◌≤◌, false, List, codes}
use Rattle.gj_shape.specs.FunctionData.{FunctionData, IsContinuous}
use Rattle.gj_shape.specs.Table.{IsMinimalOnGrid}
use Rattle.gj_function_lines.specs.FunctionLines.{line}
use Rattle.gj_group.specs.Decision.{greatest_group_order, SaysOfTable, IsFound, IsTooWideGroup}
use Rattle.gj_group.specs.declared.decision.GroupAnswer.{GroupAnswer}
use Rattle.gj_verdict_text.specs.GroupText.{IsGroupText}
use Rattle.gj_top.specs.declared.reply.End.{End}
use Rattle.gj_top.specs.declared.reply.End.TheVariants.{Done, Wide, OrderLimit}
use Rattle.gj_top.specs.Promise.{Promise}
use Rattle.gj_top.specs.Task.{Task}
use Rattle.gj_top.specs.Forms.{function_promise, function_task}
use Rattle.gj_top.specs.Continuity.{IsContinuousReply}
use Rattle.gj_top.specs.Extreme.{wide_line}

-- the headline: the function is continuous, and the text calls the table of its own order not
-- minimal, extreme or not extreme, and so it is
pub record IsTrueGroupText (f : FunctionData) (text : List ℕ) : Type 0 where
  pub continuous : IsContinuous f
  pub answer : GroupAnswer
  pub says : SaysOfTable f answer
  pub spelled : IsGroupText f answer text

-- of a function of at most the greatest order, no number is too wide, and the violation or the
-- halves are those of the decision
pub record IsGroupVerdict (f : FunctionData) (text : List ℕ) : Type 0 where
  pub few : f.order ≤ greatest_group_order
  pub narrow : IsMinimalOnGrid f 1 → IsTooWideGroup f → ⊥
  pub answer : GroupAnswer
  pub says : SaysOfTable f answer
  pub found : IsFound f answer
  pub spelled : IsGroupText f answer text

-- the table is minimal, and a number of the decision is too wide
pub record IsGroupTooWide (f : FunctionData) (text : List ℕ) : Type 0 where
  pub few : f.order ≤ greatest_group_order
  pub minimal : IsMinimalOnGrid f 1
  pub wide : IsTooWideGroup f
  pub spelled : text ≡ wide_line

-- of a continuous function whose order passes the limit that is said
abbrev pub IsGroupReply : FunctionData → End → List ℕ → Type 0
IsGroupReply f Done text = IsGroupVerdict f text
IsGroupReply f Wide text = IsGroupTooWide f text
IsGroupReply f OrderLimit text = (greatest_group_order < f.order)
    × (text ≡ line (codes "order limit"))
IsGroupReply f end text = ⊥

abbrev pub group_promise : Promise
group_promise = function_promise false IsTrueGroupText

abbrev pub group : Task
group = function_task false IsTrueGroupText (IsContinuousReply IsGroupReply)
