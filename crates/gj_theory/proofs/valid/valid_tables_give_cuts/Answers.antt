use Rattle.gj_theory.proofs.CutsByTables.{cut_by_valid}
use Rattle.gj_theory.proofs.ValidTables.{subadditive_is_valid}
use Rattle.gj_theory.proofs.valid.valid_tables_give_cuts.Goals as goal

pub returns-clause-cut : goal.returns-clause-cut
returns-clause-cut c = cut_by_valid

pub returns-clause-subadditive : goal.returns-clause-subadditive
returns-clause-subadditive c = subadditive_is_valid
