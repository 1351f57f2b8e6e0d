-- When a sum and a difference of two fractions fit 128 bits (own).
use Rattle.std.specs.Prelude.{ℕ, ℤ, pos, ◌≢◌, ◌≤◌, ◌^◌, ◌/◌, ◌*ℤ◌, ◌+ℤ◌, ◌-ℤ◌, unsigned_abs}
use Rattle.std.specs.Int.{IsGcd}
use Rattle.gj_frac.specs.declared.Frac.{Frac}
use Rattle.gj_frac.specs.Fraction.{Fits, IsRatio, SameValue, fraction_of, product_of, quotient_of, numerator, denominator}

-- g is the greatest common divisor of the two denominators
abbrev pub IsDenominatorGcd : Frac → Frac → ℕ → Type 0
IsDenominatorGcd x y g = IsGcd (unsigned_abs (denominator x)) (unsigned_abs (denominator y)) g

-- the numerator of x over the common denominator of x and y
abbrev pub scaled_numerator : Frac → Frac → ℕ → ℤ
scaled_numerator x y g = numerator x *ℤ pos (unsigned_abs (denominator y) / g)

-- the common denominator of x and y
abbrev pub common_denominator : Frac → Frac → ℕ → ℤ
common_denominator x y g = pos (unsigned_abs (denominator x) / g) *ℤ denominator y

-- both scaled numerators and the common denominator fit
pub record FitsTogetherOver (x y : Frac) (g : ℕ) : Type 0 where
  pub first : Fits (scaled_numerator x y g)
  pub second : Fits (scaled_numerator y x g)
  pub bottom : Fits (common_denominator x y g)

-- x and y can be brought over their common denominator
abbrev pub FitsTogether : Frac → Frac → Type 0
FitsTogether x y = (g : ℕ) → IsDenominatorGcd x y g → FitsTogetherOver x y g

-- the two scaled numerators, their sum and the common denominator fit
pub record FitsSumOver (x y : Frac) (g : ℕ) : Type 0 where
  pub first : Fits (scaled_numerator x y g)
  pub second : Fits (scaled_numerator y x g)
  pub total : Fits (scaled_numerator x y g +ℤ scaled_numerator y x g)
  pub bottom : Fits (common_denominator x y g)

-- x + y can be computed
abbrev pub FitsSum : Frac → Frac → Type 0
FitsSum x y = (g : ℕ) → IsDenominatorGcd x y g → FitsSumOver x y g

-- the two scaled numerators, their difference and the common denominator fit
pub record FitsDifferenceOver (x y : Frac) (g : ℕ) : Type 0 where
  pub first : Fits (scaled_numerator x y g)
  pub second : Fits (scaled_numerator y x g)
  pub difference : Fits (scaled_numerator x y g -ℤ scaled_numerator y x g)
  pub bottom : Fits (common_denominator x y g)

-- x - y can be computed
abbrev pub FitsDifference : Frac → Frac → Type 0
FitsDifference x y = (g : ℕ) → IsDenominatorGcd x y g → FitsDifferenceOver x y g

-- x * y can be computed: some fraction, in lowest terms and within the limit, has its value
abbrev pub FitsProduct : Frac → Frac → Type 0
FitsProduct x y = (z : Frac)
    × SameValue (fraction_of z) (product_of (fraction_of x) (fraction_of y))

-- x / y can be computed: y is not 0, and some fraction, in lowest terms and within the limit, has
-- its value
pub record FitsQuotient (x y : Frac) : Type 0 where
  pub divisor : numerator y ≢ pos 0
  pub fits : (z : Frac) × SameValue (fraction_of z) (quotient_of (fraction_of x) (fraction_of y))

-- two fractions over one denominator d of at most 2^125, with numerators over d of at most 2^125 in
-- absolute value, can be added and subtracted
abbrev pub FitsOverOneDenominator : Type 0
FitsOverOneDenominator = (x y : Frac) (n m d : ℤ) → IsRatio x n d → IsRatio y m d →
    unsigned_abs d ≢ 0 →
    unsigned_abs d ≤ 2 ^ 125 → unsigned_abs n ≤ 2 ^ 125 → unsigned_abs m ≤ 2 ^ 125 →
    FitsSum x y × FitsDifference x y
