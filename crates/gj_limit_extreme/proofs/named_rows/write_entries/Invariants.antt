use Rattle.std.proofs.Common.{length}
use Rattle.gj_sparse_elim.proofs.SparseRows.{IsSpread}
use Rattle.gj_limit_extreme.proofs.named_rows.write_entries.Given as goal

abbrev pub invariant-loop-entry : goal.invariant-loop-entry
invariant-loop-entry l = IsSpread (length l.initial.row) l.entries l.row l.entry-index
