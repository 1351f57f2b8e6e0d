-- How large the coefficients of cuts are (own).
use Rattle.std.specs.Prelude.{pos, ◌≤◌, ◌≤ℤ◌, ◌^◌, unsigned_abs}
use Rattle.gj_frac.specs.declared.Frac.{Frac}
use Rattle.gj_frac.specs.Fraction.{numerator, denominator}

-- from 0 to 1, with a numerator and a denominator of at most 2^62
pub record IsSmallCoefficient (x : Frac) : Type 0 where
  pub nonnegative : pos 0 ≤ℤ numerator x
  pub at_most_one : numerator x ≤ℤ denominator x
  pub numerator_small : unsigned_abs (numerator x) ≤ 2 ^ 62
  pub denominator_small : unsigned_abs (denominator x) ≤ 2 ^ 62
