-- What a violation shows of a function (Gomory and Johnson 1972; Light on the Infinite Group
-- Relaxation I).
use Rattle.std.specs.Prelude.{ℕ, ℤ, pos, ◌≡◌, ◌≢◌, ◌+◌, ◌*◌, ◌%◌, ◌<◌, ◌+ℤ◌, ◌<ℤ◌}
use Rattle.gj_frac.specs.declared.Frac.{Frac}
use Rattle.gj_frac.specs.Fraction.{numerator, denominator}
use Rattle.gj_shape.specs.FunctionData.{FunctionData}
use Rattle.gj_shape.specs.Table.{table}
use Rattle.gj_shape.specs.declared.violations.Violation.{Violation}
use Rattle.gj_shape.specs.declared.violations.Violation.TheVariants as violation

-- x is the point n/d, in lowest terms
pub record IsPoint (x : Frac) (n d : ℕ) : Type 0 where
  pub numerator_is : numerator x ≡ pos n
  pub denominator_is : denominator x ≡ pos d
  pub positive : 0 < d

-- the value at n/d, over d times the scale
abbrev pub value_of : FunctionData → ℕ → ℕ → ℤ
value_of f n d = table f d (n * f.order)

-- the value at x is less than 0
pub record IsNegativeAt (f : FunctionData) (x : Frac) (n d : ℕ) : Type 0 where
  pub point : IsPoint x n d
  pub below : value_of f n d <ℤ pos 0

-- the values at x and at f - x do not add up to 1; j is the index of f - x on the grid of order d
-- times the function's
pub record IsAsymmetricAt (f : FunctionData) (x : Frac) (n d j : ℕ) : Type 0 where
  pub point : IsPoint x n d
  pub opposite : (n * f.order + j) % (f.order * d) ≡ (f.place * d) % (f.order * d)
  pub differs : value_of f n d +ℤ table f d j ≢ pos (f.scale * d)

-- the values at x and y add up to less than the value at x + y, all three over d e times the scale
pub record IsSuperadditiveAt (f : FunctionData) (x y : Frac) (n d m e : ℕ) : Type 0 where
  pub first : IsPoint x n d
  pub second : IsPoint y m e
  pub below : (value_of f (n * e) (d * e) +ℤ value_of f (m * d) (d * e))
      <ℤ value_of f (n * e + m * d) (d * e)

-- the violation shows that a minimal function's property fails: at 0, at a point, or at a pair of
-- points
abbrev pub ShowsViolation : FunctionData → Violation → Type 0
ShowsViolation f violation.Zero = value_of f 0 1 ≢ pos 0
ShowsViolation f (violation.Negative x) = (n d : ℕ) × IsNegativeAt f x n d
ShowsViolation f (violation.Asymmetric x) = (n d j : ℕ) × IsAsymmetricAt f x n d j
ShowsViolation f (violation.Superadditive x y) = (n d m e : ℕ) × IsSuperadditiveAt f x y n d m e
