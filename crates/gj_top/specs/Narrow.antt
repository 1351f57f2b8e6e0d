-- When `extreme` never ends with Wide (own).
use Rattle.std.specs.Prelude.{ℕ, ◌<◌, ◌≤◌, List}
use Rattle.gj_shape.specs.Additive.{IsTight}
use Rattle.gj_shape.specs.Cover.{IsCovered, AreCoverLines, components_in}
use Rattle.gj_shape.specs.FunctionData.{FunctionData}
use Rattle.gj_shape.specs.declared.extremality.CoverLine.{CoverLine}

-- an interval of f is uncovered
abbrev pub HasUncoveredInterval : FunctionData → Type 0
HasUncoveredInterval f = (i : ℕ) × (i < f.order) × (IsCovered f.order (IsTight f) i → ⊥)

-- the covered intervals of f lie in at most n components
abbrev pub HasAtMostComponents : ℕ → FunctionData → Type 0
HasAtMostComponents n f = (lines : List CoverLine) × AreCoverLines f.order (IsTight f) lines
    × (components_in lines ≤ n)
