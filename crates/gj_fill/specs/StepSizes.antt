-- The size of a step between neighbouring places, times the common denominator (own).
use Rattle.std.specs.Prelude.{ℤ, ◌<◌, ◌^◌, unsigned_abs}

-- the difference of two values
abbrev pub IsStepSize : ℤ → Type 0
IsStepSize n = unsigned_abs n < 2 ^ 52
