use Rattle.std.proofs.Common.{◌+◌, ◌-◌, ◌≤◌, length}
use Rattle.std.specs.Vec.{vec_len, vec_capacity}
use Rattle.gj_shape.specs.Elimination.{inserted}
use Rattle.gj_elim.specs.Tables.{rows_of}
use Rattle.gj_elim.proofs.LazyProgress.{IsLazy}
use Rattle.gj_elim.proofs.lazy.reduce_lazily.Given as goal

abbrev pub invariant-loop-column : goal.invariant-loop-column
invariant-loop-column l = record {
  lazy : IsLazy (inserted (length l.initial.row) (rows_of l.kept) l.initial.row)
      (rows_of l.kept) (length l.initial.row)
      l.column l.row l.reduce.items l.is_stepped l.extent.bound l.extent.end;
  room : vec_len l.reduce + (length l.initial.row - l.column) ≤ vec_capacity l.reduce;
}
