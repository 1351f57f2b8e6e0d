use Rattle.gj_fill.proofs.FillPoints.{affine_between}
use Rattle.gj_fill.proofs.laws.fill_in_is_affine_between_points.Goals as goal

pub returns : goal.returns
returns c = affine_between
