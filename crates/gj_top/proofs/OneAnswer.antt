-- The task of each request gives one answer to an input.
use Rattle.std.proofs.Common.{◌≡◌, ◌≢◌, ◌⊎◌, inl, inr, ℕ, Bool, true, false, List, refl}
use Rattle.gj_shape.specs.FunctionData.{FunctionData, IsContinuous}
use Rattle.gj_words.specs.declared.requests.Command.{Command}
use Rattle.gj_words.specs.declared.requests.Command.TheVariants.{Minimal, Extreme, Cut, Check, Show, Faces, Demo, Mixed, Problem, Derive, Fill, Group, Times, Mirror, Restrict}
use Rattle.gj_words.specs.declared.requests.Request.{Request}
use Rattle.gj_top.specs.declared.reply.End.{End}
use Rattle.gj_top.specs.declared.status.Status.{Status}
use Rattle.gj_top.specs.declared.status.Status.TheVariants.{Done}
use Rattle.gj_top.specs.Answer.{IsAnswerTo}
use Rattle.gj_top.specs.Command.{task_with, task_for}
use Rattle.gj_top.specs.Extreme.{IsExtremality, IsTrueExtremality}
use Rattle.gj_verdict_text.specs.FacesText.{IsFacesText}
use Rattle.gj_top.specs.Faces.{IsJumpsFacesText}
use Rattle.gj_top.specs.LimitExtreme.{IsJumpsExtremality, IsTrueJumpsExtremality}
use Rattle.gj_top.specs.Continuity.{IsContinuousReply}
use Rattle.gj_top.specs.Forms.{function_task}
use Rattle.gj_top.specs.Task.{EndsDone}
use Rattle.gj_top.specs.Fill.{IsFillText, IsFillReply}
use Rattle.gj_top.specs.Group.{IsTrueGroupText, IsGroupReply}
use Rattle.gj_top.specs.Minimal.{IsVerdict, IsTrueVerdict}
use Rattle.gj_top.specs.Report.{Tells, IsToldReply, proof_task}
use Rattle.gj_top.specs.Show.{IsShownText}
use Rattle.gj_top.specs.Transform.{IsTimesText, IsTimesReply, IsMirrorText, IsRestrictionText, IsRestrictionReply}
use Rattle.gj_top.proofs.Determined.{AnswersOne, IsDetermined, one_answer_of, one_done}
use Rattle.gj_top.proofs.OneCheck.{check_is_determined, derive_is_determined}
use Rattle.gj_top.proofs.OneCuts.{cut_is_determined}
use Rattle.gj_top.proofs.OneListing.{one_faces_text, one_jumps_faces, one_fill_reply, demo_is_determined}
use Rattle.gj_top.proofs.OneLimitVerdict.{one_jumps_extremality}
use Rattle.gj_top.proofs.OneMade.{one_times_reply, one_mirror_text, one_restriction_reply}
use Rattle.gj_top.proofs.OneMixed.{mixed_is_determined}
use Rattle.gj_top.proofs.OneProblem.{problem_is_determined}
use Rattle.gj_top.proofs.OneReported.{one_shown, one_told_reply}
use Rattle.gj_top.proofs.OneTable.{one_group_reply}
use Rattle.gj_top.proofs.OneVerdict.{of_functions, one_continuous, one_verdict, one_extremality}
use Rattle.gj_top.proofs.Sound.{sound}

of_proofs : (json : Bool) (headline : FunctionData → List ℕ → Type 0) (replies : FunctionData →
    End → List ℕ → Type 0) →
    AnswersOne replies → IsDetermined (proof_task json headline replies)
of_proofs json headline replies one =
    of_functions json (λ f. Tells json (headline f)) (IsToldReply json replies)
    (one_told_reply json replies one)

of_continuous : (headline : FunctionData → List ℕ → Type 0) (replies : FunctionData → End → List ℕ →
    Type 0) →
    AnswersOne replies → IsDetermined (function_task false headline (IsContinuousReply replies))
of_continuous headline replies one = of_functions false headline (IsContinuousReply replies)
    (one_continuous replies one)

is_determined : (c : Command) (json jumps : Bool) → IsDetermined (task_with c json jumps)
is_determined Minimal json jumps =
    of_proofs json IsTrueVerdict (EndsDone IsVerdict)
    (λ f l. one_done IsVerdict f (λ x y. one_verdict f x y l))
is_determined Extreme json false = of_proofs json IsTrueExtremality IsExtremality one_extremality
is_determined Extreme json true =
    of_functions json (IsTrueJumpsExtremality json) (IsJumpsExtremality json)
    (one_jumps_extremality json)
is_determined Show json jumps =
    of_functions json (IsShownText json) (EndsDone (IsShownText json))
    (λ f l. one_done (IsShownText json) f (λ x y. one_shown json f x y l))
is_determined Check json jumps = check_is_determined
is_determined Faces json false =
    of_continuous (λ f text. IsContinuous f) (EndsDone IsFacesText)
    (λ f l. one_done IsFacesText f (one_faces_text f))
is_determined Faces json true =
    of_functions false IsJumpsFacesText (EndsDone IsJumpsFacesText)
    (λ f l. one_done IsJumpsFacesText f (one_jumps_faces f))
is_determined Cut json jumps = cut_is_determined
is_determined (Demo n) json jumps = demo_is_determined n
is_determined Mixed json jumps = mixed_is_determined
is_determined Problem json jumps = problem_is_determined
is_determined Derive json jumps = derive_is_determined
is_determined Fill json jumps = of_continuous IsFillText IsFillReply one_fill_reply
is_determined Group json jumps = of_continuous IsTrueGroupText IsGroupReply one_group_reply
is_determined (Times n j) json jumps = of_functions false (IsTimesText n j) (IsTimesReply n j)
    (one_times_reply n j)
is_determined Mirror json jumps =
    of_functions false IsMirrorText (EndsDone IsMirrorText)
    (λ f l. one_done IsMirrorText f (λ x y. one_mirror_text f x y l))
is_determined (Restrict d) json jumps = of_continuous (IsRestrictionText d) (IsRestrictionReply d)
    (one_restriction_reply d)

module _ (r : Request) (input : List ℕ) (s t : Status) (x y : List ℕ) where
  pub one_answer : IsAnswerTo (task_for r) input s x → IsAnswerTo (task_for r) input t y →
      (s ≡ t) × (x ≡ y)
  one_answer = one_answer_of (task_for r) input s t x y (sound r)
      (is_determined r.command r.json r.jumps)

  pub one_status : IsAnswerTo (task_for r) input s x → IsAnswerTo (task_for r) input t y → s ≡ t
  one_status a b = (one_answer a b).0

  pub one_text : IsAnswerTo (task_for r) input s x → IsAnswerTo (task_for r) input t y → x ≡ y
  one_text a b = (one_answer a b).1
