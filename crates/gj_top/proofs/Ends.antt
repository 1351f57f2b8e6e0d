-- The status of a reply is that of its end, and no fault, no refusal and no want of memory.
use Rattle.std.proofs.Common.{◌≡◌, ℕ, Bool, true, false, List, Option, None, Some, refl, ap, ◌∙◌}
use Rattle.gj_top.specs.declared.reply.End.{End}
use Rattle.gj_top.specs.declared.reply.End.TheVariants as end
use Rattle.gj_top.specs.declared.status.Status.{Status}
use Rattle.gj_top.specs.declared.status.Status.TheVariants.{Done, Rejected, Words, ReadFault, WriteFault, Memory, Wide}
use Rattle.gj_top.specs.declared.status.Status.TheVariants.{NotContinuous, NoFunction, NotSubadditive, OrderLimit, BadOrder}
use Rattle.gj_top.specs.Reply.{status_of}
use Rattle.gj_top.specs.Task.{Task}
use Rattle.gj_top.specs.Answer.{IsAnswerTo}
use Rattle.gj_top.specs.Answer.IsAnswerTo.{too_long, refused, replied}

-- the end that has this status
abbrev pub end_of : Status → Option End
end_of Done = Some end.Done
end_of Rejected = Some end.Rejected
end_of Wide = Some end.Wide
end_of NotContinuous = Some end.NotContinuous
end_of NoFunction = Some end.NoFunction
end_of NotSubadditive = Some end.NotSubadditive
end_of OrderLimit = Some end.OrderLimit
end_of BadOrder = Some end.BadOrder
end_of other = None

end_of_status : (e : End) → end_of (status_of e) ≡ Some e
end_of_status end.Done = refl
end_of_status end.Rejected = refl
end_of_status end.Wide = refl
end_of_status end.NotContinuous = refl
end_of_status end.NoFunction = refl
end_of_status end.NotSubadditive = refl
end_of_status end.OrderLimit = refl
end_of_status end.BadOrder = refl

-- a status that is that of an end has this end
pub end_is : (s : Status) (e : End) → s ≡ status_of e → end_of s ≡ Some e
end_is s e is = ap end_of is ∙ end_of_status e

-- of one end at most
pub one_end : (s : Status) (d e : End) → s ≡ status_of d → s ≡ status_of e → d ≡ e
one_end s d e first second =
    let one = end_is s d first in
    let other = end_is s e second in
    cc

-- and not every status is that of one
pub no_end : (s r : Status) (e : End) → s ≡ r → end_of r ≡ None → s ≡ status_of e → ⊥
no_end s r e same none is =
    let nothing : end_of s ≡ None = ap end_of same ∙ none in
    let some = end_is s e is in
    cc

-- a status with which an input is answered
abbrev pub is_answered : Status → Bool
is_answered Words = false
is_answered ReadFault = false
is_answered WriteFault = false
is_answered Memory = false
is_answered other = true

end_answers : (e : End) → is_answered (status_of e) ≡ true
end_answers end.Done = refl
end_answers end.Rejected = refl
end_answers end.Wide = refl
end_answers end.NotContinuous = refl
end_answers end.NoFunction = refl
end_answers end.NotSubadditive = refl
end_answers end.OrderLimit = refl
end_answers end.BadOrder = refl

pub answered : (task : Task) (input : List ℕ) (s : Status) (text : List ℕ) →
    IsAnswerTo task input s text → is_answered s ≡ true
answered task input s text (too_long a) = ap is_answered a.status_is
answered task input s text (refused a) = ap is_answered a.status_is
answered task input s text (replied a) = ap is_answered a.status_is ∙ end_answers a.end

-- another status is not
pub not_answered : (task : Task) (input : List ℕ) (s r : Status) (text : List ℕ) → s ≡ r →
    is_answered r ≡ false → IsAnswerTo task input s text → ⊥
not_answered task input s r text is off a =
    let yes : is_answered s ≡ true = answered task input s text a in
    let same : is_answered s ≡ is_answered r = ap is_answered is in
    cc
