use Rattle.gj_problem.proofs.GridParts.{near_below}
use Rattle.gj_problem.proofs.theorems.rounded_near.Goals as goal

pub returns : goal.returns
returns c = near_below
