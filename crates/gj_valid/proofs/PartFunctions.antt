-- Functions of the top and the bottom of a point, with solutions over one bottom: valid, minimal
-- and extreme ones.
use Rattle.std.specs.Prelude.{ℕ, pos, ◌≡◌, ◌+◌, ◌*◌, ◌%◌, ◌<◌, ◌<ℤ◌, List, map, sum, unsigned_abs}
use Rattle.gj_frac.specs.Fraction.{Fraction, SameValue, sum_of, AtMostValue}
use Rattle.gj_shape.specs.FunctionData.{FunctionData}
use Rattle.gj_shape.specs.Violation.{value_of}
use Rattle.gj_valid.specs.ValidFunctions.{over, total_of}

-- n/d and m/e differ by a whole number
abbrev pub SamePlace : ℕ → ℕ → ℕ → ℕ → Type 0
SamePlace n d m e = (n * e) % (d * e) ≡ (m * d) % (d * e)

abbrev pub nothing : Fraction
nothing = over 0 1

abbrev pub one : Fraction
one = over 1 1

-- the sum of a function's values at n/d for each n of the list
abbrev pub sum_of_values : (ℕ → ℕ → Fraction) → ℕ → List ℕ → Fraction
sum_of_values v d tops = total_of (map (λ n. v n d) tops)

-- a function of period 1 that takes each fraction n/d to a fraction
pub record IsPartFunction (v : ℕ → ℕ → Fraction) : Type 0 where
  pub positive : (n d : ℕ) → 0 < d → pos 0 <ℤ (v n d).bottom
  pub at_points : (n d m e : ℕ) → 0 < d → 0 < e → SamePlace n d m e → SameValue (v n d) (v m e)

pub record IsValidPart (v : ℕ → ℕ → Fraction) (k q : ℕ) : Type 0 where
  pub function : IsPartFunction v
  pub nonnegative : (n d : ℕ) → 0 < d → AtMostValue nothing (v n d)
  pub at_solutions : (d : ℕ) (tops : List ℕ) → 0 < d → SamePlace (sum tops) d k q →
      AtMostValue one (sum_of_values v d tops)

pub record IsMinimalPart (v : ℕ → ℕ → Fraction) (k q : ℕ) : Type 0 where
  pub valid : IsValidPart v k q
  pub none_below : (u : ℕ → ℕ → Fraction) → IsValidPart u k q →
      ((n d : ℕ) → 0 < d → AtMostValue (u n d) (v n d)) →
      (n d : ℕ) → 0 < d → SameValue (u n d) (v n d)

pub record IsExtremePart (v : ℕ → ℕ → Fraction) (k q : ℕ) : Type 0 where
  pub valid : IsValidPart v k q
  pub no_average : (a b : ℕ → ℕ → Fraction) → IsValidPart a k q → IsValidPart b k q →
      ((n d : ℕ) → 0 < d → SameValue (sum_of (a n d) (b n d)) (sum_of (v n d) (v n d))) →
      (n d : ℕ) → 0 < d → SameValue (a n d) (b n d)

-- 0 at 0, nowhere negative, subadditive, and values at points that add up to f add up to 1
pub record HasRules (v : ℕ → ℕ → Fraction) (k q : ℕ) : Type 0 where
  pub function : IsPartFunction v
  pub zero_at_zero : SameValue (v 0 1) nothing
  pub nonnegative : (n d : ℕ) → 0 < d → AtMostValue nothing (v n d)
  pub subadditive : (n m d : ℕ) → 0 < d → AtMostValue (v (n + m) d) (sum_of (v n d) (v m d))
  pub symmetric : (n m d : ℕ) → 0 < d → SamePlace (n + m) d k q →
      SameValue (sum_of (v n d) (v m d)) one

-- the function that the data tell, by parts
abbrev pub part_of : FunctionData → ℕ → ℕ → Fraction
part_of f n d = record { top = value_of f n d; bottom = pos (f.scale * d) }

-- a function of fractions by parts, and back
abbrev pub at_parts : (Fraction → Fraction) → ℕ → ℕ → Fraction
at_parts v n d = v (over n d)

abbrev pub from_parts : (ℕ → ℕ → Fraction) → Fraction → Fraction
from_parts v x = v (unsigned_abs x.top) (unsigned_abs x.bottom)
