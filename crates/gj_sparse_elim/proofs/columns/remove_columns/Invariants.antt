use Rattle.gj_sparse_elim.proofs.ColumnSets.{AreEmptyTo}
use Rattle.gj_sparse_elim.proofs.columns.remove_columns.Given as goal

abbrev pub invariant-loop-part : goal.invariant-loop-part
invariant-loop-part l = AreEmptyTo l.parts l.part-index
