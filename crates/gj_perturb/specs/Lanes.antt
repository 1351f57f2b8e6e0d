-- The values of a function in lanes of 32 bits, and the slacks at the corners of triangles (own).
use Rattle.std.specs.Prelude.{ℕ, pos, ◌≡◌, ◌⊎◌, ◌+◌, ◌-◌, ◌*◌, ◌<◌, ◌≤◌, ◌^◌, List, [], ◌∷◌, length, get_or, All}
use Rattle.std.specs.List.{Contains}
use Rattle.gj_shape.specs.FunctionData.{FunctionData}
use Rattle.gj_loops.specs.Lanes.{ArePeriods}

-- the slack at a pair of indices, if it is not negative
abbrev pub lane_slack : List ℕ → ℕ → ℕ → ℕ
lane_slack lanes a b = get_or lanes a 0 + get_or lanes b 0 - get_or lanes (a + b) 0

-- the slacks at the corners of the lower triangle of the square (a, b)
abbrev pub triangle : List ℕ → ℕ → ℕ → List ℕ
triangle lanes a b = lane_slack lanes a b ∷ lane_slack lanes (a + 1) b ∷ lane_slack lanes a (b + 1)
    ∷ []

-- the lanes are the values of the function, over two periods
pub record HoldValues (f : FunctionData) (lanes : List ℕ) : Type 0 where
  pub periods : ArePeriods (λ n. pos n) (pos 0) (2 ^ 31) lanes f.value
  pub count : length f.value ≡ f.order

-- two periods of n lanes below 2^31, of which no two add up to less than that at the sum of their
-- indices
pub record AreSubadditive (lanes : List ℕ) (n : ℕ) : Type 0 where
  pub room : 2 * n ≤ length lanes
  pub small : (i : ℕ) → i < 2 * n → get_or lanes i 0 < 2 ^ 31
  pub subadditive : (a b : ℕ) → a + b < 2 * n →
      get_or lanes (a + b) 0 ≤ get_or lanes a 0 + get_or lanes b 0

-- the greatest lane stands for no slack, and each other one for the slack that is one more
abbrev pub no_slack : ℕ
no_slack = 2 ^ 32 - 1

-- the triangle of a square below n has this slack at a corner
pub record IsAtCorner (lanes : List ℕ) (n x : ℕ) : Type 0 where
  pub a : ℕ
  pub b : ℕ
  pub a_below : a < n
  pub b_below : b < n
  pub here : Contains (triangle lanes a b) x

-- and the slack 0 at another
pub record IsBesideZero (lanes : List ℕ) (n x : ℕ) : Type 0 where
  pub a : ℕ
  pub b : ℕ
  pub a_below : a < n
  pub b_below : b < n
  pub tight : Contains (triangle lanes a b) 0
  pub here : Contains (triangle lanes a b) x

-- the lane of the least positive slack at a corner of the chosen triangles, and that of the least
-- one in such a triangle that has the slack 0 at a corner as well
pub record AreLeast (lanes : List ℕ) (n : ℕ) (IsChosen : ℕ → ℕ → Type 0) (any beside_zero : ℕ) :
    Type 0 where
  pub any_met : (any ≡ no_slack) ⊎ IsAtCorner lanes n (any + 1)
  pub beside_met : (beside_zero ≡ no_slack) ⊎ IsBesideZero lanes n (beside_zero + 1)
  pub any_low : (a b : ℕ) → IsChosen a b → All (λ x. 0 < x → any < x) (triangle lanes a b)
  pub beside_low : (a b : ℕ) → IsChosen a b → Contains (triangle lanes a b) 0 →
      All (λ x. 0 < x → beside_zero < x) (triangle lanes a b)

-- the lane of the least positive slack at the chosen corners
pub record IsLeastAt (lanes : List ℕ) (n : ℕ) (IsChosen : ℕ → ℕ → Type 0) (least : ℕ) : Type 0 where
  pub met : (least ≡ no_slack) ⊎ IsAtCorner lanes n (least + 1)
  pub low : (a b : ℕ) → IsChosen a b → 0 < lane_slack lanes a b → least < lane_slack lanes a b

-- the squares (i, b) with b from i to below `end`
abbrev pub IsInRow : ℕ → ℕ → ℕ → ℕ → Type 0
IsInRow i end a b = (a ≡ i) × (i ≤ b) × (b < end)

-- the squares (a, b) with a below `end` and b from a to below n
abbrev pub IsInRows : ℕ → ℕ → ℕ → ℕ → Type 0
IsInRows n end a b = (a < end) × (a ≤ b) × (b < n)
