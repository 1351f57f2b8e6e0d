-- Valid tables, and what minimal and extreme mean among them (Gomory and Johnson 1972; lists of
-- places in place of counts and "dominated" are own).
use Rattle.std.specs.Prelude.{ℕ, ℤ, pos, ◌≡◌, ◌+◌, ◌*◌, ◌%◌, ◌<◌, ◌*ℤ◌, ◌≤ℤ◌, ◌<ℤ◌, List, map, sum}
use Rattle.gj_shape.specs.Extreme.{AverageTo}
use Rattle.gj_shape.specs.SlopeRows.{total}

-- a solution of the cyclic problem: places, each as often as it is used, that add up to k modulo n
abbrev pub IsSolution : ℕ → ℕ → List ℕ → Type 0
IsSolution n k places = sum places % n ≡ k % n

-- the sum of a table's entries at the places
abbrev pub weight : (ℕ → ℤ) → List ℕ → ℤ
weight t places = total (map t places)

-- a valid table of period n over the scale s, with f at the place k: its entries at the places of
-- each solution add up to s or more
pub record IsValidTable (t : ℕ → ℤ) (n k s : ℕ) : Type 0 where
  pub has_period : (i : ℕ) → t (i + n) ≡ t i
  pub nonnegative : (i : ℕ) → pos 0 ≤ℤ t i
  pub at_solutions : (places : List ℕ) → IsSolution n k places → pos s ≤ℤ weight t places

-- the valid table u over c s lies under the table t over s: it is nowhere above it
pub record LiesUnder (c : ℕ) (u t : ℕ → ℤ) (n k s : ℕ) : Type 0 where
  pub some : 0 < c
  pub valid : IsValidTable u n k (c * s)
  pub at_most : (i : ℕ) → u i ≤ℤ (pos c *ℤ t i)

-- a valid table such that each valid table that lies under it equals it
pub record IsMinimalAmongValid (t : ℕ → ℤ) (n k s : ℕ) : Type 0 where
  pub valid : IsValidTable t n k s
  pub none_below : (c : ℕ) (u : ℕ → ℤ) → LiesUnder c u t n k s → (i : ℕ) → u i ≡ pos c *ℤ t i

-- a valid table that is no average of two different valid tables
pub record IsExtremeAmongValid (t : ℕ → ℤ) (n k s : ℕ) : Type 0 where
  pub valid : IsValidTable t n k s
  pub no_average : (c : ℕ) (a b : ℕ → ℤ) → 0 < c → IsValidTable a n k (c * s) →
      IsValidTable b n k (c * s) →
      AverageTo c a b t → (i : ℕ) → a i ≡ b i

-- some valid table lies under the table, and below it at a place
abbrev pub IsDominated : (ℕ → ℤ) → ℕ → ℕ → ℕ → Type 0
IsDominated t n k s = (c : ℕ) × (u : ℕ → ℤ) × (place : ℕ) × LiesUnder c u t n k s
    × (u place <ℤ (pos c *ℤ t place))
