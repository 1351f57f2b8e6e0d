-- One of two halves, as a function (own).
use Rattle.std.specs.Prelude.{ℕ, ℤ, pos, ◌≡◌, ◌≤◌, ◌<◌, ◌≤ℤ◌, List, length, unsigned_abs}
use Rattle.gj_shape.specs.FunctionData.{FunctionData, function_over, at}
use Rattle.gj_shape.specs.Limits.{greatest_halves_order, greatest_halves_scale}
use Rattle.gj_limit_check_halves.specs.declared.half.Half.{Half}

-- the function
abbrev pub data_of : Half → FunctionData
data_of h = function_over h.order h.place (unsigned_abs h.scale) h.left.now h.value.now h.right.now

-- the number lies from 0 to the scale
abbrev pub IsBetween : ℤ → ℤ → Type 0
IsBetween x scale = (pos 0 ≤ℤ x) × (x ≤ℤ scale)

-- as many numbers as the half has points, all from 0 to its scale
pub record AreNumbersOf (h : Half) (xs : List ℤ) : Type 0 where
  pub length : length xs ≡ h.order
  pub between : (i : ℕ) → IsBetween (at xs i) h.scale

-- its order is from 2 to 4,000 and its scale at most 2^124, and it has such numbers on each side
pub record IsHalf (h : Half) : Type 0 where
  pub order_low : 2 ≤ h.order
  pub order_high : h.order ≤ greatest_halves_order
  pub place_high : h.place < h.order
  pub scale_high : h.scale ≤ℤ pos greatest_halves_scale
  pub left : AreNumbersOf h h.left.now
  pub value : AreNumbersOf h h.value.now
  pub right : AreNumbersOf h h.right.now
