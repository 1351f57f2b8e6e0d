use Rattle.std.proofs.Common.{◌-◌, length}
use Rattle.gj_sparse_elim.proofs.SparseSteps.{IsScaledTo}
use Rattle.gj_sparse_elim.proofs.lazy.scale.Given as goal

abbrev pub invariant-loop-column : goal.invariant-loop-column
invariant-loop-column l = IsScaledTo l.factor l.initial.row l.row l.next

abbrev pub decreases-loop-column : goal.decreases-loop-column
decreases-loop-column l = length l.initial.row - l.next
