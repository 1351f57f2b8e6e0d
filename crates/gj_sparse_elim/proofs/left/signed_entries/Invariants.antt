use Rattle.std.proofs.Common.{◌-◌, ◌≤◌, length}
use Rattle.gj_sparse_elim.specs.Left.{signed_row}
use Rattle.gj_sparse_elim.proofs.SparseRows.{IsGathered}
use Rattle.gj_sparse_elim.proofs.left.signed_entries.Given as goal

abbrev pub invariant-loop-found : goal.invariant-loop-found
invariant-loop-found l = record {
  gathered : IsGathered (signed_row l.is_negative l.row) l.entries.items l.next;
  within : l.next ≤ length l.row;
}

abbrev pub decreases-loop-found : goal.decreases-loop-found
decreases-loop-found l = length l.row - l.next
