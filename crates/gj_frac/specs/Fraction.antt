-- The value of a fraction, and what a `Frac` is (own; the usual cross products over whole numbers
-- without bound).
use Rattle.std.specs.Prelude.{Bool, if◌then◌else◌, ℕ, ℤ, pos, ◌≡◌, ◌*ℤ◌, ◌+ℤ◌, ◌-ℤ◌, neg_ℤ, ◌<ℤ◌, ◌≤ℤ◌, ◌^◌, ◌<◌, ◌≤◌, ◌*◌, unsigned_abs}
use Rattle.gj_frac.specs.declared.Frac.{Frac}

-- a fraction of whole numbers without bound; its bottom is not 0
pub record Fraction : Type 0 where
  pub top : ℤ
  pub bottom : ℤ

-- two fractions have one value if their cross products are equal
abbrev pub SameValue : Fraction → Fraction → Type 0
SameValue x y = x.top *ℤ y.bottom ≡ y.top *ℤ x.bottom

-- x is less than y, if both bottoms are above 0
abbrev pub LessValue : Fraction → Fraction → Type 0
LessValue x y = (x.top *ℤ y.bottom) <ℤ (y.top *ℤ x.bottom)

-- x is at most y, if both bottoms are above 0
abbrev pub AtMostValue : Fraction → Fraction → Type 0
AtMostValue x y = (x.top *ℤ y.bottom) ≤ℤ (y.top *ℤ x.bottom)

abbrev pub sum_of : Fraction → Fraction → Fraction
sum_of x y = record { top = x.top *ℤ y.bottom +ℤ y.top *ℤ x.bottom; bottom = x.bottom *ℤ y.bottom }

abbrev pub difference_of : Fraction → Fraction → Fraction
difference_of x y = record {
  top = x.top *ℤ y.bottom -ℤ y.top *ℤ x.bottom;
  bottom =
      x.bottom *ℤ y.bottom;
}

abbrev pub product_of : Fraction → Fraction → Fraction
product_of x y = record { top = x.top *ℤ y.top; bottom = x.bottom *ℤ y.bottom }

-- x times y turned upside down; its bottom has the sign of y's top, so it may be negative
abbrev pub quotient_of : Fraction → Fraction → Fraction
quotient_of x y = record { top = x.top *ℤ y.bottom; bottom = x.bottom *ℤ y.top }

abbrev pub negation_of : Fraction → Fraction
negation_of x = record { top = neg_ℤ x.top; bottom = x.bottom }

-- the numerator of a `Frac`, in lowest terms
abbrev pub numerator : Frac → ℤ
numerator x = x.num

-- the denominator of a `Frac`, in lowest terms: a number above 0
abbrev pub denominator : Frac → ℤ
denominator x = x.den

abbrev pub fraction_of : Frac → Fraction
fraction_of x = record { top = x.num; bottom = x.den }

-- x is n/d
abbrev pub IsRatio : Frac → ℤ → ℤ → Type 0
IsRatio x n d = SameValue (fraction_of x) (record { top = n; bottom = d })

-- a whole number that fits a part of a `Frac`: it is at most 2^127 - 1 in absolute value
abbrev pub Fits : ℤ → Type 0
Fits n = unsigned_abs n < 2 ^ 127

-- x is a whole number: in lowest terms its denominator is 1
abbrev pub IsWhole : Frac → Type 0
IsWhole x = denominator x ≡ pos 1

-- x is between 0 and 1, both excluded
abbrev pub IsInside : Frac → Type 0
IsInside x = (pos 0 <ℤ numerator x) × (numerator x <ℤ denominator x)

-- x is at most n in absolute value
abbrev pub IsAtMost : ℕ → Frac → Type 0
IsAtMost n x = unsigned_abs (numerator x) ≤ n * unsigned_abs (denominator x)

-- the denominator of x is below d
abbrev pub HasDenominatorBelow : ℕ → Frac → Type 0
HasDenominatorBelow d x = unsigned_abs (denominator x) < d

-- a number with a sign
abbrev pub with_sign : Bool → ℕ → ℤ
with_sign is_negative size = if is_negative then neg_ℤ (pos size) else pos size
