use Rattle.std.proofs.Common.{◌≡◌, ℕ, ◌-◌, ◌<◌, pos, length}
use Rattle.gj_shape.specs.Elimination.{at_column}
use Rattle.gj_sparse_elim.specs.Columns.{IsSupport}
use Rattle.gj_sparse_elim.proofs.lazy.erase.Given as goal

abbrev pub invariant-loop-column : goal.invariant-loop-column
invariant-loop-column l = record {
  done : (k : ℕ) → k < l.next → at_column l.row k ≡ pos 0;
  support : IsSupport l.touched l.row;
}

abbrev pub decreases-loop-column : goal.decreases-loop-column
decreases-loop-column l = length l.initial.row - l.next
