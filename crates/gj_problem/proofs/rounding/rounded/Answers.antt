use Rattle.gj_problem.proofs.MovedEntries.{rounded_of_holds, rounded_terms}
use Rattle.gj_problem.proofs.rounding.rounded.Goals as goal

pub returns-in-Ok-clause-holds : goal.returns-in-Ok-clause-holds
returns-in-Ok-clause-holds c =
    rounded_of_holds c.args.problem.now c.args.grid c.args.cut.now c.in-Ok.made c.in-Ok.ensures.is

pub returns-in-Ok-clause-terms : goal.returns-in-Ok-clause-terms
returns-in-Ok-clause-terms c =
    rounded_terms c.args.problem.now c.args.grid c.args.cut.now c.in-Ok.made c.in-Ok.ensures.is
