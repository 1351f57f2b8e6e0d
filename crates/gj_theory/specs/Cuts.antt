-- Entries of tables and values of functions at fractions, for the cuts of rows (Gomory 1960; Gomory
-- and Johnson 1972).
use Rattle.std.specs.Prelude.{ℕ, ℤ, pos, ◌*ℤ◌, unsigned_abs}
use Rattle.gj_frac.specs.declared.Frac.{Frac}
use Rattle.gj_frac.specs.Floor.{IsFloor, rest_above}
use Rattle.gj_frac.specs.Fraction.{Fraction, SameValue, LessValue, IsRatio, fraction_of, difference_of, quotient_of, numerator, denominator}
use Rattle.gj_shape.specs.FunctionData.{FunctionData}
use Rattle.gj_shape.specs.Values.{IsCongruent, IsValueAt}

-- x is a/n for some whole number a, and c is the entry over s of the table of period n at the place
-- a
pub record IsEntryAt (t : ℕ → ℤ) (n s : ℕ) (x c : Frac) : Type 0 where
  pub place : ℤ
  pub place_is : IsRatio x place (pos n)
  pub index : ℕ
  pub index_is : IsCongruent (pos index) place n
  pub entry_is : IsRatio c (t index) (pos s)

-- y is the value of the function at x
abbrev pub IsValueOf : FunctionData → Frac → Frac → Type 0
IsValueOf f x y = IsValueAt f (numerator x *ℤ pos f.order) (unsigned_abs (denominator x)) y

-- 1 minus a fraction
abbrev pub one_minus : Fraction → Fraction
one_minus x = difference_of (record { top = pos 1; bottom = pos 1 }) x

-- y is the mixed-integer cut for f at x: with r the fractional part of x it is r/f if r is at most
-- f, else (1 - r)/(1 - f)
pub record IsGmicValue (f x y : Frac) : Type 0 where
  pub rises : (w : ℤ) → IsFloor x w → (LessValue (fraction_of f) (rest_above x w) → ⊥) →
      SameValue (fraction_of y) (quotient_of (rest_above x w) (fraction_of f))
  pub falls : (w : ℤ) → IsFloor x w → LessValue (fraction_of f) (rest_above x w) →
      SameValue (fraction_of y)
      (quotient_of (one_minus (rest_above x w)) (one_minus (fraction_of f)))
