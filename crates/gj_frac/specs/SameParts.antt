-- Fractions of equal value are one, proved. It stands here since the laws of `Ord` and
-- `ExactNumber` cite it.
use Rattle.std.proofs.Common.{◌≡◌, ℤ}
use Rattle.gj_frac.specs.declared.Frac.{Frac}
use Rattle.gj_frac.specs.Lowest.{IsLowest}
use Rattle.gj_frac.specs.Fraction.{SameValue, fraction_of}
use Rattle.gj_lemmas.proofs.Divisors.{same_ratio}
use Rattle.gj_lemmas.proofs.Ratios.{Ratio}
use denote.Struct.Props.{props}
use mathlib.Core.HLevel.{is_prop→PathP}

-- a fraction as a ratio with a positive bottom
abbrev pub ratio : Frac → Ratio
ratio x = record { top = x.num; bottom = x.den; positive = x.lowest.positive }

-- two numbers are in lowest terms in one way at most
IsLowest_prop : (n d : ℤ) → IsProp (IsLowest n d)
IsLowest_prop n d = hlevel props

-- fractions with equal parts are one
pub same_parts_same : (x y : Frac) → x.num ≡ y.num → x.den ≡ y.den → x ≡ y
same_parts_same x y e f = λ i. record {
  num = e i;
  den = f i;
  lowest = is_prop→PathP (λ j. IsLowest (e j) (f j)) (λ j. IsLowest_prop (e j) (f j)) x.lowest
      y.lowest i;
}

-- equal values have equal parts
pub same_value_same_parts : (x y : Frac) → SameValue (fraction_of x) (fraction_of y) →
    (x.num ≡ y.num) × (x.den ≡ y.den)
same_value_same_parts x y h =
    same_ratio x.num x.den y.num y.den x.lowest.coprime y.lowest.coprime x.lowest.positive
    y.lowest.positive h

-- fractions of equal value are one
pub same_value_same : (x y : Frac) → SameValue (fraction_of x) (fraction_of y) → x ≡ y
same_value_same x y h = let parts = same_value_same_parts x y h in
    same_parts_same x y parts.0 parts.1
