-- Numbers of three sides as lists, and as limits and values (own).
use Rattle.std.specs.Prelude.{ℕ, ℤ, ◌≡◌, ◌⊎◌, ◌<◌, length, All, map, unsigned_abs}
use Rattle.std.specs.List.{range_with_len}
use Rattle.gj_frac.specs.Fraction.{Fits}
use Rattle.gj_shape.specs.FunctionData.{at}
use Rattle.gj_shape.specs.declared.extremality.SideNumbers.{SideNumbers}
use Rattle.gj_jumps.specs.LimitSystem.{Limits}
use Rattle.gj_limit_averages.specs.Moved.{IsBoundOf}

-- the limits and values that the lists have, indices modulo their lengths
abbrev pub limits_on_sides : SideNumbers → Limits ℤ
limits_on_sides s = record { left = at s.left; value = at s.value; right = at s.right }

-- the first n of the limits and values
abbrev pub listed : ℕ → Limits ℤ → SideNumbers
listed n w = record {
  left = map w.left (range_with_len 0 n);
  value = map w.value (range_with_len 0 n);
  right = map w.right (range_with_len 0 n);
}

-- so many numbers of each side, at most 2^127 - 1 in absolute value
pub record AreSidesWithin (n : ℕ) (s : SideNumbers) : Type 0 where
  pub left_length : length s.left ≡ n
  pub value_length : length s.value ≡ n
  pub right_length : length s.right ≡ n
  pub left_fit : All Fits s.left
  pub value_fit : All Fits s.value
  pub right_fit : All Fits s.right

-- p is the greatest absolute value
pub record IsGreatestOf (w : Limits ℤ) (p : ℕ) : Type 0 where
  pub bound : IsBoundOf w p
  pub i : ℕ
  pub reached : (unsigned_abs (w.left i) ≡ p) ⊎ (unsigned_abs (w.value i) ≡ p)
      ⊎ (unsigned_abs (w.right i) ≡ p)

-- one of the first n numbers of some side passes 2^127 - 1 in absolute value
pub record HasWide (n : ℕ) (w : Limits ℤ) : Type 0 where
  pub i : ℕ
  pub below : i < n
  pub wide : (Fits (w.left i) → ⊥) ⊎ (Fits (w.value i) → ⊥) ⊎ (Fits (w.right i) → ⊥)
