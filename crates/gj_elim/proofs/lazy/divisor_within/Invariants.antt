use Rattle.gj_elim.proofs.SmallDivisors.{IsDivisorTo}
use Rattle.gj_elim.proofs.lazy.divisor_within.Given as goal

abbrev pub invariant-loop-i : goal.invariant-loop-i
invariant-loop-i l = IsDivisorTo l.row l.i l.divisor
