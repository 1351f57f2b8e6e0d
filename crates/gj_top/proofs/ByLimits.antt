-- With `--jumps`, `extreme` calls a function that jumps extreme exactly if it is, and answers any
-- other as without the flag.
use Rattle.std.proofs.Common.{◌≡◌, ◌↔◌, ℕ, Bool, List, String, Option, subst}
use Rattle.std.specs.declared.alloc.Global.{Global}
use Rattle.gj_words.specs.declared.requests.Request.{Request}
use Rattle.gj_shape.specs.FunctionData.{FunctionData, IsContinuous}
use Rattle.gj_shape.specs.Table.{IsMinimal}
use Rattle.gj_limit_averages.specs.Averages.{IsExtremeFunction}
use Rattle.gj_top.specs.declared.reply.End.{End}
use Rattle.gj_top.specs.declared.reply.End.TheVariants as end
use Rattle.gj_top.specs.declared.status.Status.TheVariants.{Done}
use Rattle.gj_top.specs.Asked.{AskIfExtremeWithJumps}
use Rattle.gj_top.specs.Causes.{IsDoneRun}
use Rattle.gj_top.specs.Command.{task_for}
use Rattle.gj_top.specs.Continuity.{Jumps}
use Rattle.gj_top.specs.Decisive.{CallsExtremeByLimits, IsLimitDecisive}
use Rattle.gj_top.specs.Extreme.{IsExtremality, extreme}
use Rattle.gj_top.specs.Forms.{SpellsFunction}
use Rattle.gj_top.specs.LimitExtreme.{IsJumpsExtremality, extreme_with_jumps}
use Rattle.gj_top.specs.Outcome.{IsOutcome}
use Rattle.gj_top.specs.Report.{IsToldReply}
use Rattle.gj_top.specs.Run.{Run, IsGiven, OfWritten}
use Rattle.gj_top.specs.Task.{IsReply}
use Rattle.gj_top.proofs.Clauses.{reply_clause, weaker}
use Rattle.gj_top.proofs.Commands.{one_named}
use Rattle.gj_top.proofs.LimitExtremality.{called_by_limits}
use Rattle.gj_top.proofs.JumpsReplies.{same_without}
use Rattle.gj_top.proofs.TextLaws.{spelled_is_bounded, one_spelled}

-- ---- functions that jump

-- a reply
pub by_limits : (json : Bool) (f : FunctionData) (input text : List ℕ) →
    SpellsFunction json input f → Jumps f →
    IsReply (extreme_with_jumps json) input end.Done text →
    (CallsExtremeByLimits json f text ↔ IsExtremeFunction f)
by_limits json f input text spelled jumps r =
    let same : r.thing ≡ f = one_spelled json input r.thing f r.spelled spelled in
    called_by_limits json f text (spelled_is_bounded json input f spelled) jumps
    (subst (λ (g : FunctionData). IsJumpsExtremality json g end.Done text) same r.replied)

-- a run
decisive : (json : Bool) (words : List (String Global)) (input before : List ℕ)
    (written : Option (List ℕ)) (f : FunctionData) →
    AskIfExtremeWithJumps json words input f → Jumps f → IsDoneRun words input before written →
    IsLimitDecisive json f before written
decisive json words input before written f asked jumps d = record {
  text = d.text;
  gain = d.gain;
  called = by_limits json f input d.text asked.spelled jumps
      (subst (λ (r : Request). IsReply (task_for r) input end.Done d.text)
      (one_named words d.request _ d.named asked.named) d.reply);
}

pub by_limits_clause : (run : Run) → IsOutcome run → run.status ≡ Done →
    (input : List ℕ) (json : Bool) (f : FunctionData) → IsGiven run input →
    AskIfExtremeWithJumps json run.words input f → Jumps f → OfWritten run (IsLimitDecisive json f)
by_limits_clause run o done input json f given asked jumps =
    weaker run.written (λ before. IsDoneRun run.words input before run.written_after)
    (λ before. IsLimitDecisive json f before run.written_after)
    (λ before. decisive json run.words input before run.written_after f asked jumps)
    (reply_clause run o done input given)

-- ---- other functions

to_without : (json : Bool) (f : FunctionData) (input text : List ℕ) (e : End) →
    SpellsFunction json input f → (IsMinimal f → IsContinuous f) →
    IsReply (extreme_with_jumps json) input e text → IsReply (extreme json) input e text
to_without json f input text e spelled others r =
    let same : r.thing ≡ f = one_spelled json input r.thing f r.spelled spelled in
    record {
      thing = f;
      spelled = spelled;
      replied = (same_without json f e text others).0
          (subst (λ (g : FunctionData). IsJumpsExtremality json g e text) same r.replied);
    }

from_without : (json : Bool) (f : FunctionData) (input text : List ℕ) (e : End) →
    SpellsFunction json input f → (IsMinimal f → IsContinuous f) →
    IsReply (extreme json) input e text → IsReply (extreme_with_jumps json) input e text
from_without json f input text e spelled others r =
    let same : r.thing ≡ f = one_spelled json input r.thing f r.spelled spelled in
    record {
      thing = f;
      spelled = spelled;
      replied = (same_without json f e text others).1
          (subst (λ (g : FunctionData). IsToldReply json IsExtremality g e text) same r.replied);
    }

pub others_alike : (json : Bool) (f : FunctionData) (input text : List ℕ) (e : End) →
    SpellsFunction json input f → (IsMinimal f → IsContinuous f) →
    (IsReply (extreme_with_jumps json) input e text ↔ IsReply (extreme json) input e text)
others_alike json f input text e spelled others =
    (to_without json f input text e spelled others, from_without json f input text e spelled others)
