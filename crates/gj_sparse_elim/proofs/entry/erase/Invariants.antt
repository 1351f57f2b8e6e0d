use Rattle.std.proofs.Common.{◌≡◌, ℕ, ◌<◌, pos}
use Rattle.gj_shape.specs.Elimination.{at_column}
use Rattle.gj_sparse_elim.proofs.entry.erase.Given as goal

abbrev pub invariant-loop-number : goal.invariant-loop-number
invariant-loop-number l = (k : ℕ) → k < l.number-index → at_column l.row k ≡ pos 0
