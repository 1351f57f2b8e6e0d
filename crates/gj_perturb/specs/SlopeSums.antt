-- The sums of slopes of intervals (Equivariant Perturbation I).
use Rattle.std.specs.Prelude.{ℕ, ℤ, ◌<◌, List, length, get_or}
use Rattle.gj_frac.specs.Fraction.{Fits}
use Rattle.gj_shape.specs.Elimination.{at_column}
use Rattle.gj_shape.specs.Perturbation.{perturbation_of}

-- the slope of an interval is that of its component
abbrev pub slope_at : List ℕ → List ℤ → ℕ → ℤ
slope_at component slopes i = at_column slopes (get_or component i 0)

-- the sum of the slopes of the intervals before i/q
abbrev pub slope_sum : List ℕ → List ℤ → ℕ → ℤ
slope_sum component slopes = perturbation_of (length component) (slope_at component slopes)

-- one of the sums passes 2^127 - 1 in absolute value
pub record IsWideSum (component : List ℕ) (slopes : List ℤ) : Type 0 where
  pub index : ℕ
  pub below : index < length component
  pub wide : Fits (slope_sum component slopes index) → ⊥
