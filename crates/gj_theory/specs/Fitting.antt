-- The numbers of one entry of a step of elimination (own).
use Rattle.std.specs.Prelude.{ℤ, ◌*ℤ◌, ◌-ℤ◌}
use Rattle.gj_frac.specs.Fraction.{Fits}

-- the two products of the entry and their difference are at most 2^127 - 1 in absolute value
pub record FitsCombined (u x w e : ℤ) : Type 0 where
  pub first : Fits (u *ℤ x)
  pub second : Fits (w *ℤ e)
  pub difference : Fits (u *ℤ x -ℤ w *ℤ e)
