-- Slopes at 0, and the weights of continuous columns by them (Gomory and Johnson 1972; the limits
-- are own).
use Rattle.std.specs.Prelude.{pos, ◌-◌, ◌≤◌, ◌^◌, ◌-ℤ◌, ◌*ℤ◌, ◌<ℤ◌, ◌≤ℤ◌, unsigned_abs}
use Rattle.gj_frac.specs.declared.Frac.{Frac}
use Rattle.gj_frac.specs.Fraction.{SameValue, IsRatio, fraction_of, product_of, quotient_of, negation_of, numerator, denominator}
use Rattle.gj_shape.specs.FunctionData.{FunctionData, IsContinuous, at}
use Rattle.gj_theory.specs.Cuts.{one_minus}
use Rattle.gj_shape.specs.Limits.{IsRowNumber}
use Rattle.gj_rule.specs.declared.kind.RuleKind.{RuleKind}
use Rattle.gj_rule.specs.declared.kind.RuleKind.TheVariants.{Gmic, Table}

-- w is the weight of a continuous column with the entry c: up c if c is at least 0, and down (-c)
-- if it is below
pub record IsWeight (up down c w : Frac) : Type 0 where
  pub rises : pos 0 ≤ℤ numerator c →
      SameValue (fraction_of w) (product_of (fraction_of up) (fraction_of c))
  pub falls : numerator c <ℤ pos 0 →
      SameValue (fraction_of w) (product_of (fraction_of down) (negation_of (fraction_of c)))

-- up is the slope of a continuous function on its first interval, and -down that on its last
pub record AreSlopesAtZero (f : FunctionData) (up down : Frac) : Type 0 where
  pub up_is : IsRatio up (pos f.order *ℤ (at f.value 1 -ℤ at f.value 0)) (pos f.scale)
  pub down_is : IsRatio down (pos f.order *ℤ (at f.value (f.order - 1) -ℤ at f.value 0))
      (pos f.scale)

-- those of the mixed-integer cut for f: up is 1/f, and down is 1/(1 - f)
pub record AreGmicSlopes (f up down : Frac) : Type 0 where
  pub up_is : SameValue (fraction_of up)
      (quotient_of (record { top = pos 1; bottom = pos 1 }) (fraction_of f))
  pub down_is : SameValue (fraction_of down)
      (quotient_of (record { top = pos 1; bottom = pos 1 }) (one_minus (fraction_of f)))

-- the slopes at 0 of the kind; a function is continuous
abbrev pub AreSlopesOfKind : RuleKind → Frac → Frac → Type 0
AreSlopesOfKind (Gmic f) up down = AreGmicSlopes f up down
AreSlopesOfKind (Table shape) up down = IsContinuous shape × AreSlopesAtZero shape up down

-- at least 0, with parts of at most 2^41
pub record IsSlope (x : Frac) : Type 0 where
  pub nonnegative : pos 0 ≤ℤ numerator x
  pub numerator_small : unsigned_abs (numerator x) ≤ 2 ^ 41
  pub denominator_small : unsigned_abs (denominator x) ≤ 2 ^ 41

-- two slopes and an evaluator of weights
pub record KeptSlopes (G : Type 0) : Type 0 where
  pub up : Frac
  pub down : Frac
  pub weigh : G

-- the evaluator may be called at each fraction of the range, and answers the weight there
pub record Weighs {G : Type 0} (pre : G → Frac → Type 0) (post : G → Frac → Frac → Type 0)
    (up down : Frac) (weigh : G) : Type 0 where
  pub callable : (c : Frac) → IsRowNumber c → pre weigh c
  pub gives : (c w : Frac) → IsRowNumber c → post weigh c w → IsWeight up down c w
