use Rattle.gj_top.proofs.ByLimits.{by_limits}
use Rattle.gj_top.proofs.laws.extreme_exactly_if_no_average.Goals as goal

pub returns : goal.returns
returns c = by_limits
