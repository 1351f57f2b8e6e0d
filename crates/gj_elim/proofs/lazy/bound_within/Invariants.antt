use Rattle.gj_elim.proofs.SmallDivisors.{IsBoundTo}
use Rattle.gj_elim.proofs.lazy.bound_within.Given as goal

abbrev pub invariant-loop-i : goal.invariant-loop-i
invariant-loop-i l = IsBoundTo l.row l.i l.bound
