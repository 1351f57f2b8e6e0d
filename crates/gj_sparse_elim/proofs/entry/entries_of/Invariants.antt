use Rattle.gj_sparse_elim.proofs.SparseRows.{IsGathered}
use Rattle.gj_sparse_elim.proofs.entry.entries_of.Given as goal

abbrev pub invariant-loop-column : goal.invariant-loop-column
invariant-loop-column l = IsGathered l.row l.entries.items l.column
