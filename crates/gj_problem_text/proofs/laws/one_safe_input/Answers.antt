use Rattle.gj_problem_text.proofs.InputParts.{one_input, no_fault, one_fault}
use Rattle.gj_problem_text.proofs.laws.one_safe_input.Goals as goal

pub returns-clause-input : goal.returns-clause-input
returns-clause-input c = one_input

pub returns-clause-no_fault : goal.returns-clause-no_fault
returns-clause-no_fault c = λ text a n e h k. no_fault text a n e h k

pub returns-clause-fault : goal.returns-clause-fault
returns-clause-fault c = one_fault
