use Rattle.gj_forms.proofs.LineNumbers.{no_fault_of, first_fault_of}
use Rattle.gj_problem_text.specs.ProblemText.{problem_text}
use Rattle.gj_problem_text.proofs.ExactText.{problem_text_is_exact, one_task}
use Rattle.gj_problem_text.proofs.ReadyTasks.{ready_text}
use Rattle.gj_problem_text.proofs.read.read_problem.Goals as goal

pub returns-in-Ok-clause-only : goal.returns-in-Ok-clause-only
returns-in-Ok-clause-only c = λ task h. one_task _ _ _ c.in-Ok.ensures.found h

pub returns-in-Err-Refused-clause-only : goal.returns-in-Err-Refused-clause-only
returns-in-Err-Refused-clause-only c = λ task h.
    no_fault_of problem_text problem_text_is_exact _ task h.0 _ _ h.1
    (rw c.in-Err-Refused.field-0-is at c.in-Err-Refused.ensures.fault)

pub returns-in-Err-Refused-clause-refused : goal.returns-in-Err-Refused-clause-refused
returns-in-Err-Refused-clause-refused c =
    first_fault_of problem_text problem_text_is_exact _ _ _ _
    (rw c.in-Err-Refused.field-0-is at c.in-Err-Refused.ensures.fault) c.line_number.ensures

pub returns-in-Ok-clause-ready : goal.returns-in-Ok-clause-ready
returns-in-Ok-clause-ready c = ready_text c.args.bytes.now c.in-Ok.task c.in-Ok.ensures.found
