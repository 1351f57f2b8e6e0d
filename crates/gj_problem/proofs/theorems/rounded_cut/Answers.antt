use Rattle.gj_problem.proofs.HeldInequalities.{rounded_holds}
use Rattle.gj_problem.proofs.theorems.rounded_cut.Goals as goal

pub returns : goal.returns
returns c = rounded_holds
