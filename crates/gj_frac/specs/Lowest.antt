-- When two whole numbers are the parts of a fraction in lowest terms within the limit of 2^127 - 1.
use Rattle.std.specs.Prelude.{ℤ, pos, ◌<ℤ◌, ◌^◌, ◌<◌, unsigned_abs}
use Rattle.std.specs.Int.{IsGcd}

-- a numerator and a denominator in lowest terms: the denominator is positive, both are at most
-- 2^127 - 1 in absolute value, and no number but 1 divides both
pub record IsLowest (num den : ℤ) : Type 0 where
  pub positive : pos 0 <ℤ den
  pub num_fits : unsigned_abs num < 2 ^ 127
  pub den_fits : unsigned_abs den < 2 ^ 127
  pub coprime : IsGcd (unsigned_abs num) (unsigned_abs den) 1
