-- The numbers of a function in lanes (own).
use Rattle.std.specs.Prelude.{ℕ, ℤ, List}
use Rattle.gj_shape.specs.FunctionData.{FunctionData}
use Rattle.gj_loops.specs.Lanes.{ArePeriods}

-- the lanes are the limits and values of the function
pub record AreLimits {L : Type 0} (number : L → ℤ) (least : ℤ) (bound : ℕ) (f : FunctionData)
    (left value right : List L) : Type 0 where
  pub lefts : ArePeriods number least bound left f.left
  pub values : ArePeriods number least bound value f.value
  pub rights : ArePeriods number least bound right f.right
