-- Points on a grid (own).
use Rattle.std.specs.Prelude.{ℕ, ℤ, pos, ◌*◌, ◌<◌}
use Rattle.gj_frac.specs.declared.Frac.{Frac}
use Rattle.gj_frac.specs.Fraction.{IsRatio}
use Rattle.gj_shape.specs.FunctionData.{FunctionData}
use Rattle.gj_shape.specs.declared.violations.Violation.{Violation}
use Rattle.gj_shape.specs.declared.violations.Violation.TheVariants as violation

-- x is one of the multiples of 1/(order h) from 0 to below 1
abbrev pub IsGridPoint : FunctionData → ℕ → Frac → Type 0
IsGridPoint f h x = (i : ℕ) × (i < f.order * h) × IsRatio x (pos i) (pos (f.order * h))

-- the points of the violation are such multiples
abbrev pub IsAtGridPoints : FunctionData → ℕ → Violation → Type 0
IsAtGridPoints f h violation.Zero = Unit {0}
IsAtGridPoints f h (violation.Negative x) = IsGridPoint f h x
IsAtGridPoints f h (violation.Asymmetric x) = IsGridPoint f h x
IsAtGridPoints f h (violation.Superadditive x y) = IsGridPoint f h x × IsGridPoint f h y

-- x is a multiple of 1/(order m)
abbrev pub IsMultiple : FunctionData → ℕ → Frac → Type 0
IsMultiple f m x = (i : ℤ) × IsRatio x i (pos (f.order * m))

-- the grid of order m times the function's holds the points of the violation
abbrev pub HoldsPoints : FunctionData → ℕ → Violation → Type 0
HoldsPoints f m violation.Zero = Unit {0}
HoldsPoints f m (violation.Negative x) = IsMultiple f m x
HoldsPoints f m (violation.Asymmetric x) = IsMultiple f m x
HoldsPoints f m (violation.Superadditive x y) = IsMultiple f m x × IsMultiple f m y
