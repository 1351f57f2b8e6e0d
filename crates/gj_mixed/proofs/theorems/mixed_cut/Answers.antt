use Rattle.gj_mixed.proofs.HeldCuts.{mixed_by_function, mixed_by_gmic}
use Rattle.gj_mixed.proofs.WholeColumns.{mixed_without_columns}
use Rattle.gj_mixed.proofs.theorems.mixed_cut.Goals as goal

pub returns-clause-by_function : goal.returns-clause-by_function
returns-clause-by_function c = mixed_by_function

pub returns-clause-by_gmic : goal.returns-clause-by_gmic
returns-clause-by_gmic c = mixed_by_gmic

pub returns-clause-without_columns : goal.returns-clause-without_columns
returns-clause-without_columns c = mixed_without_columns
