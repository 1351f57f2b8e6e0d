use Rattle.gj_theory.proofs.CoarseTables.{minimal_from_any_grid}
use Rattle.gj_theory.proofs.decisive_order.any_grid_suffices.Goals as goal

pub returns : goal.returns
returns c = minimal_from_any_grid
