use Rattle.gj_theory.proofs.ValidTables.{extreme_among, only_extreme}
use Rattle.gj_theory.proofs.valid.extreme_tables_are_extreme_among_valid.Goals as goal

pub returns-clause-among : goal.returns-clause-among
returns-clause-among c = extreme_among

pub returns-clause-only : goal.returns-clause-only
returns-clause-only c = only_extreme
