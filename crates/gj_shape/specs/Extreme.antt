-- Extreme tables and functions (Gomory and Johnson 1972, with denominators cleared).
use Rattle.std.specs.Prelude.{ℕ, ℤ, pos, ◌≡◌, ◌*◌, ◌<◌, ◌+ℤ◌, ◌*ℤ◌}
use Rattle.gj_shape.specs.FunctionData.{FunctionData}
use Rattle.gj_shape.specs.Table.{table, IsMinimalTable}

-- half the sum of a and b is c times t
abbrev pub AverageTo : ℕ → (ℕ → ℤ) → (ℕ → ℤ) → (ℕ → ℤ) → Type 0
AverageTo c a b t = (i : ℕ) → a i +ℤ b i ≡ pos (2 * c) *ℤ t i

-- a minimal table of period n over the scale s, with f at the place k, that is no average of two
-- different minimal tables
pub record IsExtremeTable (t : ℕ → ℤ) (n k s : ℕ) : Type 0 where
  pub minimal : IsMinimalTable t n k s
  pub no_average : (c : ℕ) (a b : ℕ → ℤ) → 0 < c → IsMinimalTable a n k (c * s) →
      IsMinimalTable b n k (c * s) →
      AverageTo c a b t → (i : ℕ) → a i ≡ b i

-- an extreme function: its table on every grid of order a multiple of its own is extreme
abbrev pub IsExtreme : FunctionData → Type 0
IsExtreme f = (m : ℕ) → 0 < m → IsExtremeTable (table f m) (f.order * m) (f.place * m) (f.scale * m)
