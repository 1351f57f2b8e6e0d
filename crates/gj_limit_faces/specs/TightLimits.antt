-- Where the limits of the slack of a function are 0 (own).
use Rattle.std.specs.Prelude.{IfSome}
use Rattle.gj_shape.specs.FunctionData.{FunctionData}
use Rattle.gj_limit_faces.specs.Lanes.{AreLanesOf}
use Rattle.gj_limit_faces.specs.ValueRows.{AreJumps}
use Rattle.gj_limit_faces.specs.declared.tight_limits.TightLimits.{TightLimits}

-- they are those of the function
pub record AreTightLimitsOf (f : FunctionData) (limits : TightLimits) : Type 0 where
  pub lanes : AreLanesOf f limits.lanes
  pub jumps : IfSome limits.jumps (λ v. AreJumps f v.items)
