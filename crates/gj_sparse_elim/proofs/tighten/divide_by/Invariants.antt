use Rattle.std.proofs.Common.{◌-◌, length}
use Rattle.gj_elim.proofs.SmallDivisors.{IsDividedTo}
use Rattle.gj_sparse_elim.proofs.tighten.divide_by.Given as goal

abbrev pub invariant-loop-found : goal.invariant-loop-found
invariant-loop-found l = IsDividedTo l.initial.row l.row l.next

abbrev pub decreases-loop-found : goal.decreases-loop-found
decreases-loop-found l = length l.initial.row - l.next
