-- Rows of whole numbers, their solutions, and the triangular rows that plain elimination keeps
-- (own).
use Rattle.std.specs.Prelude.{ℕ, ℤ, pos, ◌≡◌, ◌<◌, ◌==◌, ◌<ℤ◌, List, [], ◌∷◌, length, map, All}
use Rattle.std.specs.List.{IsDistinct}
use Rattle.gj_shape.specs.Elimination.{KeptRow, Arithmetic, at_column, entries_of, row_with_pivot, whole_numbers}
use Rattle.gj_shape.specs.SlopeRows.{sum_of_products}

-- the numbers solve the row: the products with its entries add up to 0
abbrev pub Solves : List ℤ → List ℤ → Type 0
Solves w row = sum_of_products row w ≡ pos 0

-- the numbers solve all kept rows
abbrev pub SolvesKept : List ℤ → List KeptRow → Type 0
SolvesKept w kept = All (λ k. Solves w k.entries) kept

-- a kept row of n columns: 0 before its pivot, and of this kind there
pub record IsKeptRowBy (is_pivot : ℤ → Type 0) (n : ℕ) (k : KeptRow) : Type 0 where
  pub columns : length k.entries ≡ n
  pub below : k.pivot < n
  pub zero_before : (j : ℕ) → j < k.pivot → at_column k.entries j ≡ pos 0
  pub at_pivot : is_pivot (at_column k.entries k.pivot)

-- kept rows of n columns, no two with one pivot
pub record AreTriangularBy (is_pivot : ℤ → Type 0) (n : ℕ) (kept : List KeptRow) : Type 0 where
  pub rows : All (IsKeptRowBy is_pivot n) kept
  pub pivots : IsDistinct (λ a b. a == b) (map (λ k. k.pivot) kept)

-- of whole numbers: positive at their pivots
abbrev pub AreTriangular : ℕ → List KeptRow → Type 0
AreTriangular n kept = AreTriangularBy (λ x. pos 0 <ℤ x) n kept

-- the row after the steps at these columns, each by the kept row with its pivot there
abbrev pub present_row_by : Arithmetic → List KeptRow → List ℤ → List ℕ → List ℤ
present_row_by by kept row [] = row
present_row_by by kept row (c ∷ columns) =
    present_row_by by kept (by.step (entries_of (row_with_pivot kept c)) row c) columns

abbrev pub present_row : List KeptRow → List ℤ → List ℕ → List ℤ
present_row kept row columns = present_row_by whole_numbers kept row columns
