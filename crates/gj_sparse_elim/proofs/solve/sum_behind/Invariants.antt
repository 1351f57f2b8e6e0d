use Rattle.gj_sparse_elim.proofs.Summing.{IsSummedTo}
use Rattle.gj_sparse_elim.proofs.solve.sum_behind.Given as goal

abbrev pub invariant-loop-i : goal.invariant-loop-i
invariant-loop-i l = IsSummedTo l.row l.numbers l.column l.i l.total
