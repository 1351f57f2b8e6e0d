-- Functions from fractions to fractions: what valid, minimal and extreme mean (Gomory and Johnson
-- 1972).
use Rattle.std.specs.Prelude.{ℕ, pos, ◌*◌, ◌<ℤ◌, ◌≤ℤ◌, List, [], ◌∷◌, map, All, unsigned_abs}
use Rattle.gj_frac.specs.Fraction.{Fraction, SameValue, AtMostValue, sum_of}
use Rattle.gj_shape.specs.FunctionData.{FunctionData}
use Rattle.gj_shape.specs.Violation.{value_of}

-- n/d
abbrev pub over : ℕ → ℕ → Fraction
over n d = record { top = pos n; bottom = pos d }

-- x is at least 0, and its bottom is above 0
abbrev pub IsNonnegative : Fraction → Type 0
IsNonnegative x = (pos 0 ≤ℤ x.top) × (pos 0 <ℤ x.bottom)

-- x and y are one point modulo 1: x + n is y + m, for whole numbers n and m
abbrev pub IsSamePoint : Fraction → Fraction → Type 0
IsSamePoint x y = (n m : ℕ) × SameValue (sum_of x (over n 1)) (sum_of y (over m 1))

-- the sum of the fractions of a list
abbrev pub total_of : List Fraction → Fraction
total_of [] = over 0 1
total_of (x ∷ xs) = sum_of x (total_of xs)

-- a function of period 1 that takes fractions of at least 0 to fractions of at least 0
pub record IsFunction (v : Fraction → Fraction) : Type 0 where
  pub nonnegative : (x : Fraction) → IsNonnegative x → IsNonnegative (v x)
  pub has_period : (x y : Fraction) → IsNonnegative x → IsNonnegative y → IsSamePoint x y →
      SameValue (v x) (v y)

-- a valid function for f: if points, each as often as it is used, add up to f modulo 1, its values
-- at them add up to 1 or more
pub record IsValidFunction (v : Fraction → Fraction) (f : Fraction) : Type 0 where
  pub function : IsFunction v
  pub at_solutions : (points : List Fraction) → All IsNonnegative points →
      IsSamePoint (total_of points) f → AtMostValue (over 1 1) (total_of (map v points))

-- a valid function such that each valid function that is nowhere above it equals it
pub record IsMinimalAmongFunctions (v : Fraction → Fraction) (f : Fraction) : Type 0 where
  pub valid : IsValidFunction v f
  pub none_below : (u : Fraction → Fraction) → IsValidFunction u f →
      ((x : Fraction) → IsNonnegative x → AtMostValue (u x) (v x)) →
      (x : Fraction) → IsNonnegative x → SameValue (u x) (v x)

-- a valid function that is not half the sum of two different valid functions
pub record IsExtremeAmongFunctions (v : Fraction → Fraction) (f : Fraction) : Type 0 where
  pub valid : IsValidFunction v f
  pub no_average : (a b : Fraction → Fraction) → IsValidFunction a f → IsValidFunction b f →
      ((x : Fraction) → IsNonnegative x → SameValue (sum_of (a x) (b x)) (sum_of (v x) (v x))) →
      (x : Fraction) → IsNonnegative x → SameValue (a x) (b x)

-- the function that the data tell: at n/d its value is that of the table on the grid that holds the
-- point
abbrev pub function_of : FunctionData → Fraction → Fraction
function_of f x = record {
  top = value_of f (unsigned_abs x.top) (unsigned_abs x.bottom);
  bottom =
      pos (f.scale * unsigned_abs x.bottom);
}
