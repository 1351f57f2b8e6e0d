use Rattle.std.proofs.Common.{length}
use Rattle.std.specs.Prelude.{All}
use Rattle.gj_shape.specs.Elimination.{Insertion, whole_numbers}
use Rattle.gj_frac.specs.Fraction.{Fits}
use Rattle.gj_elim.specs.Progress.{IsBehind, rest}
use Rattle.gj_sparse_elim.specs.Rows.{sparse_rows}
use Rattle.gj_sparse_elim.proofs.exact.reduce_exactly.Given as goal

abbrev pub invariant-loop-column : goal.invariant-loop-column
invariant-loop-column l = record {
  behind : (i : Insertion) →
      IsBehind i l.initial.reduce.items
      (rest whole_numbers (sparse_rows (length l.initial.row) l.kept) (length l.initial.row)
      l.first l.initial.row) →
      IsBehind i l.reduce.items
      (rest whole_numbers (sparse_rows (length l.initial.row) l.kept) (length l.initial.row)
      l.column l.row);
  fits : All Fits l.row;
}
