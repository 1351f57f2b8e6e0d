use Rattle.gj_theory.proofs.Affine.{near_corner}
use Rattle.gj_theory.proofs.grid.slack_near_corners.Goals as goal

pub returns : goal.returns
returns c = near_corner
