use Rattle.gj_limit_grids.proofs.Bounds.{below_limits}
use Rattle.gj_limit_grids.proofs.slacks.corners_bound_limits.Goals as goal

pub returns : goal.returns
returns c f m u bounds minimal some u_some h = below_limits f m u bounds minimal some h u_some
