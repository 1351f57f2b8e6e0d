use Rattle.gj_theory.proofs.Triangular.{rank_at_most, zeros_of}
use Rattle.gj_theory.proofs.elimination.all_pivots_leave_zero.Goals as goal

pub returns-clause-rank : goal.returns-clause-rank
returns-clause-rank c = rank_at_most

pub returns-clause-zero : goal.returns-clause-zero
returns-clause-zero c = zeros_of
