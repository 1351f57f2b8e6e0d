use Rattle.std.proofs.Common.{length}
use Rattle.gj_sparse_elim.proofs.SparseSteps.{IsSubtracted}
use Rattle.gj_sparse_elim.proofs.lazy.subtract.Given as goal

abbrev pub invariant-loop-entry : goal.invariant-loop-entry
invariant-loop-entry l =
    IsSubtracted l.factor (length l.initial.row) l.initial.row l.entries l.touched l.row
    l.entry-index
