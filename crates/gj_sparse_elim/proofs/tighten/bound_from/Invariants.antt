use Rattle.std.proofs.Common.{◌-◌, length}
use Rattle.gj_elim.proofs.SmallDivisors.{IsBoundTo}
use Rattle.gj_sparse_elim.proofs.tighten.bound_from.Given as goal

abbrev pub invariant-loop-found : goal.invariant-loop-found
invariant-loop-found l = IsBoundTo l.row l.next l.bound

abbrev pub decreases-loop-found : goal.decreases-loop-found
decreases-loop-found l = length l.row - l.next
