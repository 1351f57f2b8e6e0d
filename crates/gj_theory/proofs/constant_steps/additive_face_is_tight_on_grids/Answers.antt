use Rattle.gj_theory.proofs.TightFaces.{tight_on_grid}
use Rattle.gj_theory.proofs.constant_steps.additive_face_is_tight_on_grids.Goals as goal

pub returns : goal.returns
returns c = tight_on_grid
