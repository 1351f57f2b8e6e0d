use Rattle.gj_theory.proofs.CutsByTables.{cut_by_table}
use Rattle.gj_theory.proofs.RowGrids.{cut_by_function}
use Rattle.gj_theory.proofs.cuts.cut_from_subadditivity.Goals as goal

pub returns-clause-by_table : goal.returns-clause-by_table
returns-clause-by_table c = cut_by_table

pub returns-clause-by_function : goal.returns-clause-by_function
returns-clause-by_function c = cut_by_function
