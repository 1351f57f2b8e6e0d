-- What `show` writes is a function text of the function that it read, and `show` writes it again as
-- it stands.
use Rattle.std.proofs.Common.{◌≡◌, ℕ, false, List, refl, subst, arith}
use Rattle.gj_shape.specs.FunctionData.{FunctionData}
use Rattle.gj_function_text.specs.FunctionText.{IsWholeFunctionText, IsCanonicalText}
use Rattle.gj_top.specs.declared.reply.End.{End}
use Rattle.gj_top.specs.declared.reply.End.TheVariants as end
use Rattle.gj_top.specs.declared.status.Status.{Status}
use Rattle.gj_top.specs.declared.status.Status.TheVariants.{Done}
use Rattle.gj_top.specs.Task.{IsReply, EndsDone}
use Rattle.gj_top.specs.Show.{IsShownText, show}
use Rattle.gj_top.specs.Answer.{IsAnswerTo}
use Rattle.gj_top.specs.Answer.IsAnswerTo.{too_long, refused, replied}
use Rattle.gj_top.proofs.InputLines.{whole_of_input}
use Rattle.gj_top.proofs.Sound.{show_sound}
use Rattle.gj_top.proofs.TextLaws.{function_is_bounded, one_function, canonical_text_is_read, one_canonical, shown_text_is_short}

-- what is shown is a function text of the function that was read
pub shown_is_read : (input text : List ℕ) → IsReply (show false) input end.Done text →
    (f : FunctionData) × IsWholeFunctionText input f × IsWholeFunctionText text f
shown_is_read input text r = (
  r.thing,
  whole_of_input input r.thing r.spelled,
  whole_of_input text r.thing
      (canonical_text_is_read r.thing text (function_is_bounded input r.thing r.spelled) r.replied),
)

-- a showing ends with Done
showing_done : (f : FunctionData) (e : End) (text : List ℕ) →
    EndsDone (IsShownText false) f e text → (e ≡ end.Done) × IsCanonicalText text f
showing_done f end.Done text s = (refl, s)
showing_done f e text s = absurd s

-- the reply to what was shown is that text
pub shown_again_reply : (input text again : List ℕ) (e : End) →
    IsReply (show false) input end.Done text → IsReply (show false) text e again →
    (e ≡ end.Done) × (again ≡ text)
shown_again_reply input text again e r q =
    let f = r.thing in
    let within = function_is_bounded input f r.spelled in
    let same : q.thing ≡ f =
    one_function text q.thing f q.spelled (canonical_text_is_read f text within r.replied) in
    let showing = showing_done q.thing e again q.replied in (
      showing.0,
      one_canonical f again text within (subst (IsCanonicalText again) same showing.1)
          r.replied,
    )

-- and it is answered so, since it is short
pub shown_again : (input text again : List ℕ) (s : Status) →
    IsReply (show false) input end.Done text → IsAnswerTo (show false) text s again →
    (s ≡ Done) × (again ≡ text)
shown_again input text again s r (too_long a) =
    let short = shown_text_is_short r.thing text (function_is_bounded input r.thing r.spelled)
    r.replied in
    let long = a.long in
    absurd (omega arith)
shown_again input text again s r (refused a) =
    let whole = canonical_text_is_read r.thing text (function_is_bounded input r.thing r.spelled)
    r.replied in
    absurd ((show_sound false).form text again r.thing whole a.refused)
shown_again input text again s r (replied a) =
    let same = shown_again_reply input text again a.end r a.reply in
    let ended = same.0 in
    let is = a.status_is in
    (rw ended at is, same.1)
