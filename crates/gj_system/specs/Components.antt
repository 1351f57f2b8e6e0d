-- Components of intervals, given as a list.
use Rattle.std.specs.Prelude.{ℕ, ◌<◌, List, map}
use Rattle.std.specs.List.{range_with_len}
use Rattle.gj_shape.specs.SlopeRows.{rises}
use Rattle.gj_shape.specs.declared.extremality.RowName.{RowName}
use Rattle.gj_shape.specs.declared.extremality.RowName.TheVariants.{Period, F, Pair}

-- a pair of grid points is below the order
abbrev pub IsNameBelow : RowName → ℕ → Type 0
IsNameBelow Period q = Unit {0}
IsNameBelow F q = Unit {0}
IsNameBelow (Pair a b) q = (a < q) × (b < q)

-- the component of each interval, and how many components there are
pub record ComponentData : Type 0 where
  pub component : List ℕ
  pub columns : ℕ

-- how many of the intervals before i/q are in each of n components
abbrev pub rises_at : (ℕ → ℕ) → ℕ → ℕ → List ℕ
rises_at component n i = map (rises component i) (range_with_len 0 n)
