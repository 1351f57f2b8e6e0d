-- The function of the demonstration (own).
use Rattle.std.specs.Prelude.{ℕ, pos, ◌≡◌, ◌+◌, ◌-◌, ◌*◌, ◌%◌, ◌<◌, ◌*ℤ◌, min}
use Rattle.gj_shape.specs.FunctionData.{FunctionData, IsContinuous, at}

-- the greatest number of the demonstration: with it the order 2 (2 n + 1) is 998
abbrev pub greatest_demo : ℕ
greatest_demo = 249

-- 2 k times the value at i/(2 k): the mixed-integer cut with f = 1/2 is min(i, 2 k - i)/k there,
-- the function that is 0 at even and 1 at odd i is i mod 2, and the value is half their sum
abbrev pub demo_number : ℕ → ℕ → ℕ
demo_number k i = min i (2 * k - i) + k * (i % 2)

-- the continuous function of order 2 k with f = 1/2 that has these values, k being 2 n + 1
pub record IsDemo (n : ℕ) (f : FunctionData) : Type 0 where
  pub order : f.order ≡ 2 * (2 * n + 1)
  pub place : f.place ≡ 2 * n + 1
  pub left : f.left ≡ f.value
  pub right : f.right ≡ f.value
  pub value_is : (i : ℕ) → i < f.order →
      at f.value i *ℤ pos (2 * (2 * n + 1)) ≡ pos (f.scale * demo_number (2 * n + 1) i)

-- the continuous function of the same order and place that is 0 at even and 1 at odd places
pub record IsAlternating (n : ℕ) (f : FunctionData) : Type 0 where
  pub order : f.order ≡ 2 * (2 * n + 1)
  pub place : f.place ≡ 2 * n + 1
  pub continuous : IsContinuous f
  pub value_is : (i : ℕ) → i < f.order → at f.value i ≡ pos (f.scale * (i % 2))
