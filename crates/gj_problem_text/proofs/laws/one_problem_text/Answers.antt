use Rattle.gj_problem_text.proofs.ExactText.{one_task, no_fault, one_fault}
use Rattle.gj_problem_text.proofs.laws.one_problem_text.Goals as goal

pub returns-clause-task : goal.returns-clause-task
returns-clause-task c = one_task

pub returns-clause-no_fault : goal.returns-clause-no_fault
returns-clause-no_fault c = λ text s n e h k. no_fault text s n e h k

pub returns-clause-fault : goal.returns-clause-fault
returns-clause-fault c = one_fault
