use Rattle.gj_limit_grids.proofs.Zigzag.{zigzag_perturbs}
use Rattle.gj_limit_grids.proofs.slacks.zigzags_are_perturbations.Goals as goal

pub returns : goal.returns
returns c f chosen bounds minimal h = zigzag_perturbs f chosen minimal h
