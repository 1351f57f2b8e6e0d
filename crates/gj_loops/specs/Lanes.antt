-- Numbers in lanes of some width (own).
use Rattle.std.specs.Prelude.{ℕ, ℤ, pos, ◌≡◌, ◌*◌, ◌^◌, ◌-ℤ◌, ◌<◌, ◌≤◌, ◌≤ℤ◌, ◌<ℤ◌, List, length, slice_index_or}
use Rattle.gj_shape.specs.FunctionData.{at}

-- the number is from the least on and below the bound
abbrev pub IsInRange : ℤ → ℕ → ℤ → Type 0
IsInRange least bound x = (least ≤ℤ x) × (x <ℤ pos bound)

-- the range has at most 63 bits
abbrev pub IsNarrow : ℤ → ℕ → Type 0
IsNarrow least bound = ((pos 0 -ℤ pos (2 ^ 62)) ≤ℤ least) × (bound ≤ 2 ^ 62)

-- each number of the list is in the range
abbrev pub AreInRange : ℤ → ℕ → List ℤ → Type 0
AreInRange least bound numbers = (i : ℕ) → IsInRange least bound (at numbers i)

-- the numbers in the lanes below n are in the range
abbrev pub AreLanesInRange : {L : Type 0} → (L → ℤ) → ℤ → ℕ → List L → ℕ → Type 0
AreLanesInRange {L} number least bound lanes n = (i : ℕ) (e : L) → i < n →
    IsInRange least bound (number (slice_index_or lanes i e))

-- the lanes are two periods of numbers in the range, and the first number once more
pub record ArePeriods {L : Type 0} (number : L → ℤ) (least : ℤ) (bound : ℕ) (lanes : List L)
    (numbers : List ℤ) : Type 0 where
  pub room : 2 * length numbers < length lanes
  pub same : (i : ℕ) (e : L) → i ≤ 2 * length numbers →
      number (slice_index_or lanes i e) ≡ at numbers i
  pub range : AreInRange least bound numbers
