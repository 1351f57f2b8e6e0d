-- Sums over the entries of a sparse row (own).
use Rattle.std.specs.Prelude.{ℕ, ℤ, pos, ◌+◌, ◌+ℤ◌, ◌*ℤ◌, List, [], ◌∷◌, unsigned_abs}
use Rattle.gj_sparse_elim.specs.declared.entry.Entry.{Entry}

-- the sum of the factors, each times the number for its column
abbrev pub sparse_dot : List Entry → (ℕ → ℤ) → ℤ
sparse_dot [] x = pos 0
sparse_dot (e ∷ row) x = e.factor *ℤ x e.column +ℤ sparse_dot row x

-- the sum of the absolute values of the factors
abbrev pub weight : List Entry → ℕ
weight [] = 0
weight (e ∷ row) = unsigned_abs e.factor + weight row
