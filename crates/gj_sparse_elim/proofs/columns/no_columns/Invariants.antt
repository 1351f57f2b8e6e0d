use Rattle.std.proofs.Common.{◌≡◌, length}
use Rattle.gj_sparse_elim.proofs.ColumnSets.{AreEmptyTo}
use Rattle.gj_sparse_elim.proofs.columns.no_columns.Given as goal

abbrev pub invariant-loop : goal.invariant-loop
invariant-loop l = record {
  empty : AreEmptyTo l.parts.items l.counter;
  count : length l.parts.items ≡ l.counter;
}
