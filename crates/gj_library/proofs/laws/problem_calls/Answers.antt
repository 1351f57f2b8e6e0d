use Rattle.gj_library.proofs.ProblemCalls.{problem_call}
use Rattle.gj_library.proofs.laws.problem_calls.Goals as goal

pub returns : goal.returns
returns c = problem_call
