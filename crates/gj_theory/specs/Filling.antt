-- The affine filling of a table (own).
use Rattle.std.specs.Prelude.{ℕ, ℤ, pos, ◌+◌, ◌-◌, ◌/◌, ◌%◌, ◌+ℤ◌, ◌*ℤ◌}

-- m times the entries of a table at the multiples of m, and affine between two neighbours
unfoldable pub filling : (ℕ → ℤ) → ℕ → ℕ → ℤ
filling t m i = pos (m - i % m) *ℤ t (i / m) +ℤ pos (i % m) *ℤ t (i / m + 1)
