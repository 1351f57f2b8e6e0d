use Rattle.gj_problem.proofs.HeldInequalities.{lower_holds, upper_holds}
use Rattle.gj_problem.proofs.theorems.bounds_of_a_column.Goals as goal

pub returns-clause-lower : goal.returns-clause-lower
returns-clause-lower c = lower_holds

pub returns-clause-upper : goal.returns-clause-upper
returns-clause-upper c = upper_holds
