use Rattle.gj_problem.proofs.OneRounding.{one_rounding}
use Rattle.gj_problem.proofs.theorems.one_rounded_cut.Goals as goal

pub returns : goal.returns
returns c = one_rounding
