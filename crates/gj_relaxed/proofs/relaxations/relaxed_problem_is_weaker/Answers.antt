use Rattle.gj_relaxed.proofs.RelaxedProblems.{feasible_on_grid, holds_from_grid}
use Rattle.gj_relaxed.proofs.relaxations.relaxed_problem_is_weaker.Goals as goal

pub returns-clause-feasible : goal.returns-clause-feasible
returns-clause-feasible c = feasible_on_grid

pub returns-clause-holds : goal.returns-clause-holds
returns-clause-holds c = holds_from_grid
