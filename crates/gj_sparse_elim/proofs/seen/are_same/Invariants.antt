use Rattle.std.proofs.Common.{◌≡◌, ℕ, ◌<◌, get_or}
use Rattle.gj_sparse_elim.proofs.SparseRows.{no_entry}
use Rattle.gj_sparse_elim.proofs.seen.are_same.Given as goal

abbrev pub invariant-loop-i : goal.invariant-loop-i
invariant-loop-i l = (k : ℕ) → k < l.i → get_or l.row k no_entry ≡ get_or l.other k no_entry
