-- Functions whose values at each two points with the sum f add up to 1 (Gomory and Johnson 1972).
use Rattle.std.specs.Prelude.{ℕ, pos, ◌≡◌, ◌+◌, ◌-◌, ◌<◌, ◌+ℤ◌}
use Rattle.gj_shape.specs.FunctionData.{FunctionData, at}

-- they do so at the multiples of 1/order
pub record AreMirrored (f : FunctionData) : Type 0 where
  pub each : (i : ℕ) → i < f.order → at f.value i +ℤ at f.value (f.place + (f.order - i))
      ≡ pos f.scale
