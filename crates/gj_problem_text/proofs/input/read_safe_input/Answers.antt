use Rattle.std.proofs.lemmas.Result.{IfOk-weaker}
use Rattle.gj_problem_text.specs.Ready.{IsReady}
use Rattle.gj_problem_text.specs.SafeInputs.{IsSafeInput}
use Rattle.gj_problem_text.specs.declared.input.SafeInput.{SafeInput}
use Rattle.gj_problem_text.proofs.InputParts.{only_one, ready_input}
use Rattle.gj_problem_text.proofs.input.read_safe_input.Goals as goal

pub returns-clause-only : goal.returns-clause-only
returns-clause-only c = λ asked h.
    only_one c.args.bytes.now asked c.safe_input_of.result c.safe_input_of.ensures.found
    c.safe_input_of.ensures.refused h

pub returns-clause-ready : goal.returns-clause-ready
returns-clause-ready c =
    IfOk-weaker c.safe_input_of.result (IsSafeInput c.args.bytes.now)
    (λ (asked : SafeInput). IsReady asked.task)
    (λ (asked : SafeInput) h. ready_input c.args.bytes.now asked h) c.safe_input_of.ensures.found
