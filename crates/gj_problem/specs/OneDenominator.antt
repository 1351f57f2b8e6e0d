-- Sums over one denominator (own).
use Rattle.std.specs.Prelude.{◌≡◌, ℤ, pos, ◌<ℤ◌, ◌+ℤ◌, ◌*ℤ◌}
use Rattle.gj_frac.specs.Fraction.{Fits}

-- the denominator is one of the factors times one of the numbers that are multiplied, and fits
pub record IsOneDenominator (factors numbers : ℤ) : Type 0 where
  pub factors_some : pos 0 <ℤ factors
  pub numbers_some : pos 0 <ℤ numbers
  pub fits : Fits (factors *ℤ numbers)

-- m is k n, and fits
pub record IsTimes (k n m : ℤ) : Type 0 where
  pub is : m ≡ n *ℤ k
  pub fits : Fits m

-- t is n with f times v added, and all fit
pub record IsSumWith (n f v t : ℤ) : Type 0 where
  pub is : t ≡ n +ℤ f *ℤ v
  pub product_fits : Fits (f *ℤ v)
  pub fits : Fits t

-- d is above 0, and fits
pub record IsDenominator (d : ℤ) : Type 0 where
  pub some : pos 0 <ℤ d
  pub fits : Fits d
