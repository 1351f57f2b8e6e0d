use Rattle.gj_theory.proofs.ValidTables.{minimal_among, only_minimal}
use Rattle.gj_theory.proofs.valid.minimal_tables_are_minimal_among_valid.Goals as goal

pub returns-clause-among : goal.returns-clause-among
returns-clause-among c = minimal_among

pub returns-clause-only : goal.returns-clause-only
returns-clause-only c = only_minimal
