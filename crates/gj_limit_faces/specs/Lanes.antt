-- The limits and values of a function in lanes (own).
use Rattle.std.specs.Prelude.{ℕ, ℤ, pos, ◌≡◌, ◌+◌, ◌*◌, ◌^◌, ◌-ℤ◌, List, length}
use Rattle.gj_loops.specs.Lanes.{AreInRange, ArePeriods}
use Rattle.gj_shape.specs.FunctionData.{FunctionData}
use Rattle.gj_limit_faces.specs.declared.lanes.SideLanes.{SideLanes}
use Rattle.gj_limit_faces.specs.declared.lanes.SideLanes.TheVariants.{Short, Narrow, Wide}
use Rattle.gj_limit_faces.specs.declared.terms.Side.{Side}
use Rattle.gj_limit_faces.specs.Terms.{by_side, numbers_on}

-- all limits and values of the function are in the range
abbrev pub AreSidesInRange : ℤ → ℕ → FunctionData → Type 0
AreSidesInRange least bound f =
    AreInRange least bound f.left × AreInRange least bound f.value × AreInRange least bound f.right

-- for each side the lanes are two periods of the function's numbers on it, and 65 more
pub record AreSides {L : Type 0} (number : L → ℤ) (least : ℤ) (bound : ℕ) (f : FunctionData)
    (left value right : List L) : Type 0 where
  pub periods : (side : Side) →
      ArePeriods number least bound (by_side side left value right) (numbers_on f side)
  pub room : (side : Side) → length (by_side side left value right) ≡ 2 * f.order + 65

-- the lanes of some width are those of the function
abbrev pub AreLanesOf : FunctionData → SideLanes → Type 0
AreLanesOf f (Short left value right) =
    AreSides (λ n. n) (pos 1 -ℤ pos (2 ^ 14)) (2 ^ 14) f left.items value.items right.items
AreLanesOf f (Narrow left value right) =
    AreSides (λ n. n) (pos 1 -ℤ pos (2 ^ 30)) (2 ^ 30) f left.items value.items right.items
AreLanesOf f (Wide left value right) =
    AreSides (λ n. n) (pos 1 -ℤ pos (2 ^ 62)) (2 ^ 62) f left.items value.items right.items
