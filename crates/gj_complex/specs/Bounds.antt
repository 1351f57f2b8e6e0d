-- The size of the numbers of one square (own): at most 2^20 times a common denominator below 2^31.
use Rattle.std.specs.Prelude.{ℤ}
use Rattle.gj_shape.specs.Limits.{IsNumerator}

-- three of them
pub record AreNumerators (x y z : ℤ) : Type 0 where
  pub first : IsNumerator x
  pub second : IsNumerator y
  pub third : IsNumerator z
