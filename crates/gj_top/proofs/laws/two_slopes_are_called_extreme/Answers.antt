use Rattle.std.proofs.Common.{◌≡◌, ℕ, ◌≤◌, List, length, ap, ◌∙◌, arith}
use Rattle.gj_top.specs.declared.reply.End.{End}
use Rattle.gj_top.specs.declared.reply.End.TheVariants as end
use Rattle.gj_top.specs.declared.status.Status.{Status}
use Rattle.gj_top.specs.declared.status.Status.TheVariants.{Done}
use Rattle.gj_top.specs.InputRead.{input_limit}
use Rattle.gj_top.specs.Answer.{IsAnswerTo}
use Rattle.gj_top.specs.Answer.IsAnswerTo.{too_long, refused, replied}
use Rattle.gj_top.specs.Decisive.{CallsExtreme}
use Rattle.gj_top.specs.Extreme.{extreme}
use Rattle.gj_top.specs.Reply.{status_of}
use Rattle.gj_top.specs.Task.{Task, IsInForm, IsReply}
use Rattle.gj_top.proofs.Sound.{IsSound, extreme_sound}
use Rattle.gj_top.proofs.TwoSlopeAnswers.{two_slope_reply}
use Rattle.gj_top.proofs.laws.two_slopes_are_called_extreme.Goals as goal

-- what holds of each reply to an input in the form holds of its answer, if the input is within the
-- limit
answered : (task : Task) (input text : List ℕ) (s : Status) (Called : Type 0) → IsSound task →
    IsInForm task input →
    length input ≤ input_limit → ((e : End) → IsReply task input e text → (e ≡ end.Done) × Called) →
    IsAnswerTo task input s text →
    (s ≡ Done) × Called
answered task input text s Called sound form short called (too_long a) =
    let long = a.long in
    absurd (omega arith)
answered task input text s Called sound form short called (refused a) =
    absurd (sound.form input text form.0 form.1 a.refused)
answered task input text s Called sound form short called (replied a) =
    let (ended, here) = called a.end a.reply in
    (a.status_is ∙ ap status_of ended, here)

pub returns-clause-reply : goal.returns-clause-reply
returns-clause-reply c = λ json f input text e. two_slope_reply json f input text e

pub returns-clause-answer : goal.returns-clause-answer
returns-clause-answer c = λ json f input text s spelled minimal two short.
    answered (extreme json) input text s (CallsExtreme json f text) (extreme_sound json)
    (f, spelled) short
    (λ e. two_slope_reply json f input text e spelled minimal two)
