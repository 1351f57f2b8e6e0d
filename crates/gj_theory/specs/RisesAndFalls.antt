-- Minimal functions with two slopes: one rises, one falls (Gomory and Johnson 1972).
use Rattle.std.specs.Prelude.{ℕ, pos, ◌≡◌, ◌⊎◌, ◌-◌, ◌<ℤ◌}
use Rattle.gj_shape.specs.FunctionData.{FunctionData}
use Rattle.gj_shape.specs.TwoSlopes.{rise}

-- the function rises on the first interval and falls on the last, and on each it rises as on one of
-- these
pub record RisesOrFalls (f : FunctionData) : Type 0 where
  pub first_rises : pos 0 <ℤ rise f 0
  pub last_falls : rise f (f.order - 1) <ℤ pos 0
  pub each : (a : ℕ) → (rise f a ≡ rise f 0) ⊎ (rise f a ≡ rise f (f.order - 1))
