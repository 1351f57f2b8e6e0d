use Rattle.gj_theory.proofs.Continuous.{minimal_from_own_grid}
use Rattle.gj_theory.proofs.grid.own_grid_suffices.Goals as goal

pub returns : goal.returns
returns c = minimal_from_own_grid
