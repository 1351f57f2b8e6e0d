use Rattle.gj_problem.proofs.OnePieces.{one_pieces}
use Rattle.gj_problem.proofs.OneRow.{one_right, no_free, one_free}
use Rattle.gj_problem.proofs.theorems.one_row.Goals as goal

pub returns-clause-pieces : goal.returns-clause-pieces
returns-clause-pieces c = one_pieces

pub returns-clause-right : goal.returns-clause-right
returns-clause-right c = one_right

pub returns-clause-free : goal.returns-clause-free
returns-clause-free c = no_free

pub returns-clause-first : goal.returns-clause-first
returns-clause-first c = one_free
