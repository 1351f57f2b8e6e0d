-- Tables of a function on grids, and when they are minimal (Gomory and Johnson 1972; Light on the
-- Infinite Group Relaxation I).
use Rattle.std.specs.Prelude.{ℕ, ℤ, zero, suc, pos, ◌≡◌, ◌+◌, ◌-◌, ◌*◌, ◌/◌, ◌%◌, ◌<◌, ◌+ℤ◌, ◌*ℤ◌, ◌≤ℤ◌}
use Rattle.gj_shape.specs.FunctionData.{FunctionData, at}

-- m times the numerator at a/order + r/(order m): the value if r is 0, else between the limit from
-- the right at a/order and the limit from the left at (a + 1)/order
abbrev pub entry : FunctionData → ℕ → ℕ → ℕ → ℤ
entry f m a zero = pos m *ℤ at f.value a
entry f m a (suc r) = pos (m - suc r) *ℤ at f.right a +ℤ pos (suc r) *ℤ at f.left (a + 1)

-- the values at the multiples of 1/(order m), over scale m
unfoldable pub table : FunctionData → ℕ → ℕ → ℤ
table f m i = entry f m (i / m) (i % m)

-- a minimal table of period n over the scale s with f at the place k: entries at places that add up
-- to k add up to s
pub record IsMinimalTable (t : ℕ → ℤ) (n k s : ℕ) : Type 0 where
  pub has_period : (i : ℕ) → t (i + n) ≡ t i
  pub zero_at_zero : t 0 ≡ pos 0
  pub nonnegative : (i : ℕ) → pos 0 ≤ℤ t i
  pub subadditive : (i j : ℕ) → t (i + j) ≤ℤ (t i +ℤ t j)
  pub symmetric : (i j : ℕ) → (i + j) % n ≡ k % n → t i +ℤ t j ≡ pos s

-- the table on the grid of order m times the function's order is minimal
abbrev pub IsMinimalOnGrid : FunctionData → ℕ → Type 0
IsMinimalOnGrid f m = IsMinimalTable (table f m) (f.order * m) (f.place * m) (f.scale * m)

-- a minimal function: its table on every grid of order a multiple of its own is minimal
abbrev pub IsMinimal : FunctionData → Type 0
IsMinimal f = (m : ℕ) → 0 < m → IsMinimalOnGrid f m
