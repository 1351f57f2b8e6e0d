-- Coordinates of points, as the rule `point` asks for them (own).
use Rattle.std.specs.Prelude.{ℕ, pos, ◌-ℤ◌, ◌*ℤ◌, ◌≤◌, ◌^◌, List, All}
use Rattle.std.specs.Int.{◌∣◌}
use Rattle.gj_frac.specs.declared.Frac.{Frac}
use Rattle.gj_frac.specs.Fraction.{IsRatio, numerator, denominator}
use Rattle.gj_shape.specs.FunctionData.{FunctionData}
use Rattle.gj_proof.specs.Rules.{IsCoordinate, HasFineDenominator}

-- two numbers have a common multiple from 1 to 2^62
pub record HasFineMultiple (a b : ℕ) : Type 0 where
  pub multiple : ℕ
  pub some : 1 ≤ multiple
  pub fine : multiple ≤ 2 ^ 62
  pub first : a ∣ multiple
  pub second : b ∣ multiple

-- the fractions lie from 0 to below 1 and have a common denominator of at most 2^62
pub record AreCoordinates (xs : List Frac) : Type 0 where
  pub each : All IsCoordinate xs
  pub common : HasFineDenominator xs

-- z is q (f - x), q being the order
abbrev pub IsScaledOpposite : FunctionData → Frac → Frac → Type 0
IsScaledOpposite f x z = IsRatio z (denominator x *ℤ pos f.place -ℤ numerator x *ℤ pos f.order)
    (denominator x)
