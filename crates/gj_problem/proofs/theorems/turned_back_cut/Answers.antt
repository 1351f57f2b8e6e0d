use Rattle.gj_problem.proofs.HeldInequalities.{turned_back_holds}
use Rattle.gj_problem.proofs.theorems.turned_back_cut.Goals as goal

pub returns : goal.returns
returns c = turned_back_holds
