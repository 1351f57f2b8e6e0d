use Rattle.gj_theory.proofs.TwoSlopes.{rises_and_falls}
use Rattle.gj_theory.proofs.two_slopes.two_slopes_rise_and_fall.Goals as goal

pub returns : goal.returns
returns c = rises_and_falls
