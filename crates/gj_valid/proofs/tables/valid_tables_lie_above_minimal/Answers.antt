use Rattle.gj_valid.proofs.MinimalBelow.{minimal_below}
use Rattle.gj_valid.proofs.tables.valid_tables_lie_above_minimal.Goals as goal

pub returns : goal.returns
returns c = minimal_below
