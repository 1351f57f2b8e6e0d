-- Piecewise linear functions of period 1 as data (Light on the Infinite Group Relaxation I; the
-- limits are own).
use Rattle.std.specs.Prelude.{ℕ, ℤ, pos, ◌≡◌, ◌≢◌, ◌⊎◌, ◌<◌, ◌≤◌, ◌*◌, ◌%◌, List, ◌++◌, length, get_or, All, unsigned_abs}
use Rattle.std.specs.Int.{◌∣◌}
use Rattle.gj_shape.specs.Limits.{greatest_order, greatest_value, denominator_bound}

-- a function of period 1 with breakpoints in multiples of 1/order, and f = place/order
pub record FunctionData : Type 0 where
  pub order : ℕ
  pub place : ℕ
  -- a common denominator of all values and limits
  pub scale : ℕ
  -- the limit from the left, the value and the limit from the right at i/order, each over scale
  pub left : List ℤ
  pub value : List ℤ
  pub right : List ℤ

-- the function with these parts
abbrev pub function_over : ℕ → ℕ → ℕ → List ℤ → List ℤ → List ℤ → FunctionData
function_over order place scale left value right = record {
  order = order;
  place = place;
  scale = scale;
  left = left;
  value = value;
  right = right;
}

-- the entry at an index that is read modulo the length
unfoldable pub at : List ℤ → ℕ → ℤ
at xs i = get_or xs (i % length xs) (pos 0)

-- a value or limit is at most 2^20 in absolute value
abbrev pub IsSmallOver : ℕ → ℤ → Type 0
IsSmallOver scale n = unsigned_abs n ≤ greatest_value * scale

-- what holds of each function: 2 to 1,000 pieces, f strictly between 0 and 1, values and limits of
-- at most 2^20 over a common denominator of at most 2^31 - 1, and no smaller denominator serves
pub record IsWithinBounds (f : FunctionData) : Type 0 where
  pub order_low : 2 ≤ f.order
  pub order_high : f.order ≤ greatest_order
  pub place_low : 1 ≤ f.place
  pub place_high : f.place < f.order
  pub scale_low : 1 ≤ f.scale
  pub scale_high : f.scale < denominator_bound
  pub left_length : length f.left ≡ f.order
  pub value_length : length f.value ≡ f.order
  pub right_length : length f.right ≡ f.order
  pub left_small : All (IsSmallOver f.scale) f.left
  pub value_small : All (IsSmallOver f.scale) f.value
  pub right_small : All (IsSmallOver f.scale) f.right
  pub lowest : (d : ℕ) → d ∣ f.scale →
      All (λ n. d ∣ unsigned_abs n) (f.left ++ f.value ++ f.right) → d ≡ 1

-- data of a function, of any order and with numbers of any size: 2 pieces or more, f strictly
-- between 0 and 1, and for each piece a value and two limits
pub record IsPiecewise (f : FunctionData) : Type 0 where
  pub order_low : 2 ≤ f.order
  pub place_low : 1 ≤ f.place
  pub place_high : f.place < f.order
  pub scale_low : 1 ≤ f.scale
  pub left_length : length f.left ≡ f.order
  pub value_length : length f.value ≡ f.order
  pub right_length : length f.right ≡ f.order

-- the three fractions at i/order are not all equal
abbrev pub IsJump : FunctionData → ℕ → Type 0
IsJump f i = (at f.left i ≢ at f.value i) ⊎ (at f.value i ≢ at f.right i)

-- the function jumps at i/order, and at no multiple of 1/order before
pub record IsFirstJump (f : FunctionData) (i : ℕ) : Type 0 where
  pub within : i < f.order
  pub jump : IsJump f i
  pub first : (j : ℕ) → j < i → IsJump f j → ⊥

-- at each multiple of 1/order the limits are the value
abbrev pub IsContinuous : FunctionData → Type 0
IsContinuous f = (f.left ≡ f.value) × (f.right ≡ f.value)
