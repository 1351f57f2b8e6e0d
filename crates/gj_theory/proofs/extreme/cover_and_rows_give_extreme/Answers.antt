use Rattle.gj_theory.proofs.ExtremeByCover.{extreme_by_cover, extreme_by_rows}
use Rattle.gj_theory.proofs.extreme.cover_and_rows_give_extreme.Goals as goal

pub returns-clause-zero : goal.returns-clause-zero
returns-clause-zero c = extreme_by_cover

pub returns-clause-rows : goal.returns-clause-rows
returns-clause-rows c = extreme_by_rows
