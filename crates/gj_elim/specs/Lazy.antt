-- Steps that leave a positive multiple of a row in its place, and how far a row goes.
use Rattle.std.specs.Prelude.{Bool, true, false, ℕ, ℤ, pos, ◌≡◌, ◌<◌, ◌≤◌, ◌+◌, ◌*◌, ◌^◌, ◌*ℤ◌, ◌⊎◌, List, length, unsigned_abs}
use Rattle.gj_shape.specs.Elimination.{at_column, divided, scaled, reduced, marked_in_step, Passes}

-- the row is another one times a positive factor
pub record IsMultipleRow (other row : List ℤ) : Type 0 where
  pub factor : ℕ
  pub some : 0 < factor
  pub is : row ≡ scaled (pos factor) other

-- a step by the kept row at the column leaves this row in the place of another or of a multiple of
-- it, and marks nothing that passes
pub record IsLazyStep (kept other row : List ℤ) (c : ℕ) : Type 0 where
  pub multiple : IsMultipleRow (reduced kept other c) row
  pub narrow : Passes (marked_in_step kept other c) → ⊥

-- the factors of the row and of a kept row with these entries at the column of a step: both entries
-- have one divisor
pub record AreLazyFactors (pivot entry u w : ℤ) : Type 0 where
  pub divisor : ℕ
  pub some : 0 < divisor
  pub row : u *ℤ pos divisor ≡ pivot
  pub kept : w *ℤ pos divisor ≡ entry

-- a bound of the absolute values of a row, if it is below 2^63, and the column from which on the
-- row is 0
pub record IsExtent (bound end : ℕ) (row : List ℤ) : Type 0 where
  pub small : bound < 2 ^ 63 → (k : ℕ) → unsigned_abs (at_column row k) ≤ bound
  pub zero_from : (k : ℕ) → end ≤ k → at_column row k ≡ pos 0
  pub within : end ≤ length row

-- the row is 0 outside of these columns
pub record IsZeroOutside (from to : ℕ) (row : List ℤ) : Type 0 where
  pub before : (k : ℕ) → k < from → at_column row k ≡ pos 0
  pub behind : (k : ℕ) → to ≤ k → at_column row k ≡ pos 0

-- the products of the factors u and w with what the bounds let through are small, and the row after
-- the step has this extent
pub record HasRoom (u w : ℤ) (row_bound row_end kept_bound kept_end next_bound next_end : ℕ) :
    Type 0 where
  pub row : unsigned_abs u * row_bound < 2 ^ 62
  pub kept : unsigned_abs w * kept_bound < 2 ^ 62
  pub bound : next_bound ≡ unsigned_abs u * row_bound + unsigned_abs w * kept_bound
  pub row_inside : row_end ≤ next_end
  pub kept_inside : kept_end ≤ next_end
  pub end : (next_end ≡ row_end) ⊎ (next_end ≡ kept_end)

-- the row from which another comes is divided, once a step was made; before, it is that row
abbrev pub IsExactly : Bool → List ℤ → List ℤ → Type 0
IsExactly true other row = other ≡ divided other
IsExactly false other row = other ≡ row
