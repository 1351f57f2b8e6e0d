-- The place of a function as a fraction (own).
use Rattle.std.specs.Prelude.{ℕ, pos}
use Rattle.gj_frac.specs.declared.Frac.{Frac}
use Rattle.gj_frac.specs.Fraction.{IsRatio}
use Rattle.gj_shape.specs.Given.{IsPlace}

-- the fraction is k/order with 1 ≤ k < order
abbrev pub IsPlaceFraction : ℕ → Frac → Type 0
IsPlaceFraction q x = (k : ℕ) × IsPlace q k × IsRatio x (pos k) (pos q)
