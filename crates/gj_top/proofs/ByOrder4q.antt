-- What `extreme` writes with Done calls a function extreme exactly if it is continuous and its
-- table of order 4 q is extreme.
use Rattle.std.proofs.Common.{◌≡◌, ◌↔◌, ℕ, Bool, List, String, Option, subst}
use Rattle.std.specs.declared.alloc.Global.{Global}
use Rattle.gj_words.specs.declared.requests.Request.{Request}
use Rattle.gj_shape.specs.FunctionData.{FunctionData}
use Rattle.gj_top.specs.declared.reply.End.TheVariants as end
use Rattle.gj_top.specs.declared.status.Status.TheVariants.{Done}
use Rattle.gj_top.specs.Asked.{AskIfExtreme}
use Rattle.gj_top.specs.Causes.{IsDoneRun}
use Rattle.gj_top.specs.Command.{task_for}
use Rattle.gj_top.specs.Decisive.{CallsExtreme, IsExtremeByOrder4q, IsDecisive}
use Rattle.gj_top.specs.Extreme.{IsDecisionText, IsExtremeText, extreme}
use Rattle.gj_top.specs.Forms.{SpellsFunction}
use Rattle.gj_top.specs.Outcome.{IsOutcome}
use Rattle.gj_top.specs.Report.{Tells}
use Rattle.gj_top.specs.Run.{Run, IsGiven, OfWritten}
use Rattle.gj_top.specs.Task.{IsReply}
use Rattle.gj_top.proofs.Clauses.{reply_clause, weaker}
use Rattle.gj_top.proofs.Commands.{one_named}
use Rattle.gj_top.proofs.Extremality.{extreme_at_four}
use Rattle.gj_top.proofs.OneReport.{told_exactly}
use Rattle.gj_top.proofs.TextLaws.{spelled_is_bounded, one_spelled}

-- a reply
pub by_order_4q : (json : Bool) (f : FunctionData) (input text : List ℕ) →
    SpellsFunction json input f →
    IsReply (extreme json) input end.Done text → (CallsExtreme json f text ↔ IsExtremeByOrder4q f)
by_order_4q json f input text spelled r =
    let same : r.thing ≡ f = one_spelled json input r.thing f r.spelled spelled in
    told_exactly json (IsDecisionText f) (IsExtremeText f) (IsExtremeByOrder4q f)
    (λ proof. extreme_at_four f proof (spelled_is_bounded json input f spelled)) text
    (subst (λ (g : FunctionData). Tells json (IsDecisionText g) text) same r.replied)

-- a run
decisive : (json : Bool) (words : List (String Global)) (input before : List ℕ)
    (written : Option (List ℕ)) (f : FunctionData) →
    AskIfExtreme json words input f → IsDoneRun words input before written →
    IsDecisive json f before written
decisive json words input before written f asked d = record {
  text = d.text;
  gain = d.gain;
  called = by_order_4q json f input d.text asked.spelled
      (subst (λ (r : Request). IsReply (task_for r) input end.Done d.text)
      (one_named words d.request _ d.named asked.named) d.reply);
}

pub order_4q_clause : (run : Run) → IsOutcome run → run.status ≡ Done →
    (input : List ℕ) (json : Bool) (f : FunctionData) → IsGiven run input →
    AskIfExtreme json run.words input f → OfWritten run (IsDecisive json f)
order_4q_clause run o done input json f given asked =
    weaker run.written (λ before. IsDoneRun run.words input before run.written_after)
    (λ before. IsDecisive json f before run.written_after)
    (λ before. decisive json run.words input before run.written_after f asked)
    (reply_clause run o done input given)
