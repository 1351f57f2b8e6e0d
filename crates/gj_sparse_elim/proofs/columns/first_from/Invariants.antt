use Rattle.std.proofs.Common.{◌≤◌}
use Rattle.gj_sparse_elim.proofs.ColumnSets.{IsPassed}
use Rattle.gj_sparse_elim.proofs.columns.first_from.Given as goal

abbrev pub invariant-loop-place : goal.invariant-loop-place
invariant-loop-place l = record {
  passed : IsPassed l.parts l.from l.place l.start;
  low : l.start ≤ 1024;
}
