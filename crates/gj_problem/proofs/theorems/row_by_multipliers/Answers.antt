use Rattle.gj_problem.proofs.RowsAtPoints.{sound_pieces, row_at}
use Rattle.gj_problem.proofs.theorems.row_by_multipliers.Goals as goal

pub returns-clause-sound : goal.returns-clause-sound
returns-clause-sound c = sound_pieces

pub returns-clause-adds_up : goal.returns-clause-adds_up
returns-clause-adds_up c = row_at
