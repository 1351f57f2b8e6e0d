-- The value of the fill-in at a fraction.
use Rattle.std.specs.Prelude.{ℕ, ℤ, pos, ◌≡◌, ◌+◌, ◌-◌, ◌*◌, ◌<◌, ◌*ℤ◌, unsigned_abs}
use Rattle.gj_frac.specs.declared.Frac.{Frac}
use Rattle.gj_frac.specs.Fraction.{IsRatio, numerator, denominator}
use Rattle.gj_shape.specs.FunctionData.{FunctionData, at}
use Rattle.gj_shape.specs.Values.{IsCongruent}
use Rattle.gj_fill.specs.FillIn.{filled, AreGreatestSteps}
use Rattle.gj_fill.specs.declared.at_fractions.Place.{Place}

-- y is the value of the fill-in of f at x: what it has on the grid of order times the denominator
-- of x, at each index of x modulo 1
pub record IsFilledValue (f : FunctionData) (x y : Frac) : Type 0 where
  pub rise : ℤ
  pub fall : ℤ
  pub greatest : AreGreatestSteps (at f.value) rise fall
  pub value : (i : ℕ) →
      IsCongruent (pos i) (numerator x *ℤ pos f.order) (f.order * unsigned_abs (denominator x)) →
      IsRatio y (filled (at f.value) rise fall (unsigned_abs (denominator x)) i)
      (pos (f.scale * unsigned_abs (denominator x)))

-- x lies at this place modulo 1, for the order q
pub record IsPlaceOf (q : ℕ) (x : Frac) (p : Place) : Type 0 where
  pub part : ℕ
  pub part_is : p.part ≡ pos part
  pub rest_is : p.rest ≡ pos (unsigned_abs (denominator x) - part)
  pub parts_are : p.parts ≡ pos (unsigned_abs (denominator x))
  pub before_next : part < unsigned_abs (denominator x)
  pub index_below : p.index < q
  pub place : IsCongruent (numerator x *ℤ pos q)
      (pos (p.index * unsigned_abs (denominator x) + part)) (q * unsigned_abs (denominator x))
