use Rattle.std.proofs.Common.{List, length}
use Rattle.gj_shape.specs.Elimination.{KeptRow}
use Rattle.gj_sparse_elim.specs.Sparse.{dense}
use Rattle.gj_check_groups.specs.KeptTable.{AreRowsAt}
use Rattle.gj_check_groups.proofs.StepsInTurn.{AreStepped}
use Rattle.gj_limit_check_groups.specs.SparseRows.{dense_rows, IsSparseRow}
use Rattle.gj_limit_check_groups.proofs.group.failure_in_steps.Given as goal

abbrev pub invariant-loop-place : goal.invariant-loop-place
invariant-loop-place l = record {
  row_is : IsSparseRow l.numbers (length l.table) l.row.entries.items;
  stepped : (kept : List KeptRow) → AreRowsAt kept (dense_rows (length l.table) l.table) →
      AreStepped l.numbers kept (dense (length l.table) l.initial.row.entries.items) l.columns
      l.place
      (dense (length l.table) l.row.entries.items);
}
