-- The whole part and the fractional part of a fraction (the usual ones, also of negative values).
use Rattle.std.specs.Prelude.{ℤ, pos, ◌+ℤ◌, ◌-ℤ◌, ◌*ℤ◌, ◌<ℤ◌, ◌≤ℤ◌}
use Rattle.gj_frac.specs.declared.Frac.{Frac}
use Rattle.gj_frac.specs.Fraction.{Fraction, SameValue, numerator, denominator}

-- n is the greatest whole number that is at most x
pub record IsFloor (x : Frac) (n : ℤ) : Type 0 where
  pub at_most : (n *ℤ denominator x) ≤ℤ numerator x
  pub next_above : numerator x <ℤ ((n +ℤ pos 1) *ℤ denominator x)

-- x minus the whole number w
abbrev pub rest_above : Frac → ℤ → Fraction
rest_above x w = record { top = numerator x -ℤ w *ℤ denominator x; bottom = denominator x }

-- the fractional part of x, what its floor leaves of it, is n/d
abbrev pub HasFractionalPart : Frac → ℤ → ℤ → Type 0
HasFractionalPart x n d = (w : ℤ) → IsFloor x w →
    SameValue (rest_above x w) (record { top = n; bottom = d })
