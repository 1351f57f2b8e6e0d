use Rattle.std.proofs.Common.{◌-◌, length}
use Rattle.gj_elim.proofs.SmallDivisors.{IsDivisorTo}
use Rattle.gj_sparse_elim.proofs.tighten.divisor_from.Given as goal

abbrev pub invariant-loop-found : goal.invariant-loop-found
invariant-loop-found l = IsDivisorTo l.row l.next l.divisor

abbrev pub decreases-loop-found : goal.decreases-loop-found
decreases-loop-found l = length l.row - l.next
