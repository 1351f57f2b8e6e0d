use Rattle.std.proofs.Common.{ℕ, ◌<◌, ◌≤◌, ◌^◌, get_or, unsigned_abs}
use Rattle.gj_sparse_elim.proofs.SparseRows.{no_entry}
use Rattle.gj_sparse_elim.proofs.entry.bound_of.Given as goal

abbrev pub invariant-loop-entry : goal.invariant-loop-entry
invariant-loop-entry l =
    l.bound < 2 ^ 63 → (i : ℕ) → i < l.entry-index →
    unsigned_abs (get_or l.entries i no_entry).factor ≤ l.bound
