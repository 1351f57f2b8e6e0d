-- The limits of the slack in lanes of 32 bits (own).
use Rattle.std.specs.Prelude.{ℕ, ℤ, pos, ◌≡◌, ◌⊎◌, ◌+◌, ◌-◌, ◌*◌, ◌<◌, ◌≤◌, ◌^◌, ◌<ℤ◌, ◌≤ℤ◌, List, length, get_or, All, Contains}
use Rattle.gj_shape.specs.Faces.{limits_of}
use Rattle.gj_shape.specs.FunctionData.{FunctionData, at}
use Rattle.gj_shape.specs.Limits.{greatest_order}
use Rattle.gj_shape.specs.declared.faces.FaceKind.{FaceKind}

-- the lanes are two periods of the numbers of the order, each below 2^31
pub record ArePeriodsOf (order : ℕ) (lanes : List ℕ) (numbers : List ℤ) : Type 0 where
  pub room : 2 * order < length lanes
  pub same : (i : ℕ) → i ≤ 2 * order → pos (get_or lanes i 0) ≡ at numbers i
  pub small : (i : ℕ) → i ≤ 2 * order → get_or lanes i 0 < 2 ^ 31

-- the lanes are the limits and values of a function, no limit of whose slack is negative
pub record AreSideLanes (f : FunctionData) (lefts values rights : List ℕ) : Type 0 where
  pub few : f.order ≤ greatest_order
  pub left : ArePeriodsOf f.order lefts f.left
  pub value : ArePeriodsOf f.order values f.value
  pub right : ArePeriodsOf f.order rights f.right
  pub signs : (kind : FaceKind) (a b : ℕ) → a < f.order → b < f.order →
      All (λ x. pos 0 ≤ℤ x) (limits_of f kind a b)

-- the greatest lane stands for none
abbrev pub no_lane : ℕ
no_lane = 2 ^ 32 - 1

-- the lane that stands for a limit: one below it, and of the limit 0 that of none
pub record StandsFor (limit : ℤ) (lane : ℕ) : Type 0 where
  pub sign : pos 0 ≤ℤ limit
  pub none : limit ≡ pos 0 → lane ≡ no_lane
  pub some : pos 0 <ℤ limit → limit ≡ pos (lane + 1)
  pub small : pos 0 <ℤ limit → lane < no_lane
  pub fits : lane ≤ no_lane

-- the lanes of the least positive limit of a list, and of the least one if the list has a limit 0
pub record AreLeastIn (limits : List ℤ) (any beside_zero : ℕ) : Type 0 where
  pub any_met : (any ≡ no_lane) ⊎ Contains limits (pos (any + 1))
  pub beside_met : (beside_zero ≡ no_lane)
      ⊎ (Contains limits (pos 0) × Contains limits (pos (beside_zero + 1)))
  pub any_low : All (λ x. pos 0 <ℤ x → pos any <ℤ x) limits
  pub beside_low : Contains limits (pos 0) → All (λ x. pos 0 <ℤ x → pos beside_zero <ℤ x) limits

-- a face whose limits contain these numbers
pub record IsMet (f : FunctionData) (Has : List ℤ → Type 0) : Type 0 where
  pub kind : FaceKind
  pub a : ℕ
  pub b : ℕ
  pub first_within : a < f.order
  pub second_within : b < f.order
  pub has : Has (limits_of f kind a b)

-- the same of the limits of all faces of the chosen squares
pub record AreLeastOf (f : FunctionData) (IsChosen : ℕ → ℕ → Type 0) (any beside_zero : ℕ) :
    Type 0 where
  pub any_met : (any ≡ no_lane) ⊎ IsMet f (λ limits. Contains limits (pos (any + 1)))
  pub beside_met : (beside_zero ≡ no_lane) ⊎ IsMet f (λ limits. Contains limits (pos 0)
      × Contains limits (pos (beside_zero + 1)))
  pub any_low : (kind : FaceKind) (a b : ℕ) → IsChosen a b →
      All (λ x. pos 0 <ℤ x → pos any <ℤ x) (limits_of f kind a b)
  pub beside_low : (kind : FaceKind) (a b : ℕ) → IsChosen a b →
      Contains (limits_of f kind a b) (pos 0) →
      All (λ x. pos 0 <ℤ x → pos beside_zero <ℤ x) (limits_of f kind a b)

-- the squares (i, b) with b from i to below `end`
abbrev pub IsInRow : ℕ → ℕ → ℕ → ℕ → Type 0
IsInRow i end a b = (a ≡ i) × (i ≤ b) × (b < end)

-- the squares (a, b) with a below `end` and b from a to below n
abbrev pub IsInRows : ℕ → ℕ → ℕ → ℕ → Type 0
IsInRows n end a b = (a < end) × (a ≤ b) × (b < n)

-- the one square
abbrev pub IsSquare : ℕ → ℕ → ℕ → ℕ → Type 0
IsSquare i j a b = (a ≡ i) × (b ≡ j)
