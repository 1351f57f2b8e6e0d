use Rattle.gj_elim.proofs.SmallDivisors.{IsDividedTo}
use Rattle.gj_elim.proofs.lazy.divide_within.Given as goal

abbrev pub invariant-loop-i : goal.invariant-loop-i
invariant-loop-i l = IsDividedTo l.initial.row l.row l.i
