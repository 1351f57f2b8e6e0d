use Rattle.std.proofs.Common.{◌-◌, length}
use Rattle.gj_shape.specs.Elimination.{inserted}
use Rattle.gj_elim.proofs.LazyProgress.{IsLazy}
use Rattle.gj_sparse_elim.specs.Columns.{IsSupport}
use Rattle.gj_sparse_elim.specs.Rows.{sparse_rows}
use Rattle.gj_sparse_elim.proofs.reduce.reduce_lazily.Given as goal

abbrev pub invariant-loop-column : goal.invariant-loop-column
invariant-loop-column l = record {
  reached : IsLazy (inserted (length l.initial.row)
      (sparse_rows (length l.initial.row) l.kept) l.initial.row)
      (sparse_rows (length l.initial.row) l.kept) (length l.initial.row)
      l.next l.row l.reduce.items l.is_stepped l.bound (length l.initial.row);
  support : IsSupport l.touched l.row;
}

abbrev pub decreases-loop-column : goal.decreases-loop-column
decreases-loop-column l = length l.initial.row - l.next
