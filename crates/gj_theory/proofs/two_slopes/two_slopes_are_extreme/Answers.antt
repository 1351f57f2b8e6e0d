use Rattle.gj_theory.proofs.TwoSlopesAreExtreme.{two_slopes_extreme}
use Rattle.gj_theory.proofs.two_slopes.two_slopes_are_extreme.Goals as goal

pub returns : goal.returns
returns c = two_slopes_extreme
