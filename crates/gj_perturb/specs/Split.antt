-- What can be split into halves, and what the halves are to be (own).
use Rattle.std.specs.Prelude.{ℕ, pos, ◌≡◌, ◌≢◌, ◌*◌, ◌<◌, ◌≤◌, length, All}
use Rattle.gj_shape.specs.FunctionData.{FunctionData, at}
use Rattle.gj_shape.specs.Limits.{greatest_halves_scale}
use Rattle.gj_shape.specs.Perturbation.{IsGreatestSize}
use Rattle.gj_shape.specs.Table.{table}
use Rattle.gj_theory.specs.Halves.{IsPerturbation}
use Rattle.gj_frac.specs.Fraction.{Fits}
use Rattle.gj_perturb.specs.declared.tables.Perturbation.{Perturbation}

-- a perturbation of the function's table on a grid of order up to 4 q, with entries of at most
-- 2^127 - 1 in absolute value that are not all 0
pub record CanSplit (f : FunctionData) (p : Perturbation) : Type 0 where
  pub times_low : 1 ≤ p.times
  pub times_high : p.times ≤ 4
  pub whole : length p.values ≡ f.order * p.times
  pub entries : All Fits p.values
  pub perturbation : IsPerturbation (table f p.times) (f.order * p.times) (f.place * p.times)
      (at p.values)
  pub index : ℕ
  pub not_zero : at p.values index ≢ pos 0

-- the scale of the halves passes 2^124
pub record IsWide (f : FunctionData) (p : Perturbation) : Type 0 where
  pub size : ℕ
  pub greatest : IsGreatestSize (at p.values) size
  pub above : greatest_halves_scale < 3 * size * (f.scale * p.times)
