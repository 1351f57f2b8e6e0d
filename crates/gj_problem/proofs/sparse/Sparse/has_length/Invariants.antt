use Rattle.std.proofs.Common.{◌≡◌, ℕ, ◌+◌, length, drop}
use Rattle.gj_problem.specs.Sparse.{spread}
use Rattle.gj_problem.proofs.sparse.Sparse.has_length.Given as goal

abbrev pub invariant-loop-run : goal.invariant-loop-run
invariant-loop-run l =
    (front : ℕ)
    × (length l.self ≡ front + length (spread (drop l.run-index l.self-inside.kept.items)
    l.self-inside.behind))
    × (l.count ≡ front + l.left)
