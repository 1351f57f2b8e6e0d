-- Continuous functions with two slopes (Gomory and Johnson 1972).
use Rattle.std.specs.Prelude.{ℕ, ℤ, ◌≡◌, ◌≢◌, ◌⊎◌, ◌+◌, ◌-ℤ◌}
use Rattle.gj_shape.specs.FunctionData.{FunctionData, at, IsContinuous}

-- what the value rises by from a/order to (a + 1)/order, over scale
abbrev pub rise : FunctionData → ℕ → ℤ
rise f a = at f.value (a + 1) -ℤ at f.value a

-- the function is continuous, and exactly two slopes occur on its intervals: those of these two
pub record HasTwoSlopes (f : FunctionData) : Type 0 where
  pub continuous : IsContinuous f
  pub one : ℕ
  pub other : ℕ
  pub different : rise f one ≢ rise f other
  pub each : (a : ℕ) → (rise f a ≡ rise f one) ⊎ (rise f a ≡ rise f other)
