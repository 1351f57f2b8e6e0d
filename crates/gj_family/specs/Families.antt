-- The closed forms of named families of functions.
use Rattle.std.specs.Prelude.{ℕ, pos, ◌≡◌, ◌≢◌, ◌-◌, ◌<◌, ◌≤◌, ◌*ℤ◌, List, Bool, length}
use Rattle.gj_shape.specs.FunctionData.{FunctionData, IsContinuous, at}
use Rattle.gj_family.specs.Signs.{height}

-- the mixed-integer cut of Gomory for f = k/q: x/f from 0 to f and (1 - x)/(1 - f) from f to 1
-- (Gomory 1960; Gomory and Johnson 1972)
pub record IsGmic (q k : ℕ) (f : FunctionData) : Type 0 where
  pub order : f.order ≡ q
  pub place : f.place ≡ k
  pub continuous : IsContinuous f
  pub rises : (i : ℕ) → i ≤ k → at f.value i *ℤ pos k ≡ pos i *ℤ pos f.scale
  pub falls : (i : ℕ) → k ≤ i → i ≤ q → at f.value i *ℤ pos (q - k) ≡ pos (q - i) *ℤ pos f.scale

-- 0 at 0 and 1 at f = k/q; every other value and every limit is 1/2 (own)
pub record IsHalf (q k : ℕ) (f : FunctionData) : Type 0 where
  pub order : f.order ≡ q
  pub place : f.place ≡ k
  pub at_zero : at f.value 0 ≡ pos 0
  pub at_place : at f.value k ≡ pos f.scale
  pub elsewhere : (i : ℕ) → 0 < i → i < q → i ≢ k → at f.value i *ℤ pos 2 ≡ pos f.scale
  pub left_is : (i : ℕ) → at f.left i *ℤ pos 2 ≡ pos f.scale
  pub right_is : (i : ℕ) → at f.right i *ℤ pos 2 ≡ pos f.scale

-- two slopes by signs, with f at the place k: at i/order the height of the first i steps over that
-- of the first k, so each rise is t/(r' t - t' r) and each fall is r/(r' t - t' r), with r rises
-- and t falls in all, and r' rises and t' falls among the first k (Gomory and Johnson 1972)
pub record IsTwoSlope (k : ℕ) (signs : List Bool) (f : FunctionData) : Type 0 where
  pub order : f.order ≡ length signs
  pub place : f.place ≡ k
  pub continuous : IsContinuous f
  pub value_is : (i : ℕ) → i ≤ length signs →
      at f.value i *ℤ height signs k ≡ height signs i *ℤ pos f.scale
