use Rattle.gj_elim.proofs.Solving.{IsSummed}
use Rattle.gj_elim.proofs.solve.sum_behind.Given as goal

abbrev pub invariant-loop-i : goal.invariant-loop-i
invariant-loop-i l = IsSummed l.row l.numbers l.column l.i l.total
