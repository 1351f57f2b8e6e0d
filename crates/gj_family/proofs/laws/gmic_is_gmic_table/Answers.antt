use Rattle.gj_family.proofs.Grids.{gmic_on_grid}
use Rattle.gj_family.proofs.laws.gmic_is_gmic_table.Goals as goal

pub returns : goal.returns
returns c = gmic_on_grid
