use Rattle.gj_frac.proofs.operators.fits_over_one_denominator.Goals as goal
use Rattle.gj_frac.proofs.OneDenominator.{over_one_denominator}

pub returns : goal.returns
returns c = over_one_denominator
