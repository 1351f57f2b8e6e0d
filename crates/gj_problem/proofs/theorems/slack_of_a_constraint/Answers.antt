use Rattle.gj_problem.proofs.HeldInequalities.{multiple_holds, whole_surplus}
use Rattle.gj_problem.proofs.theorems.slack_of_a_constraint.Goals as goal

pub returns-clause-holds : goal.returns-clause-holds
returns-clause-holds c = multiple_holds

pub returns-clause-is_whole : goal.returns-clause-is_whole
returns-clause-is_whole c = whole_surplus
