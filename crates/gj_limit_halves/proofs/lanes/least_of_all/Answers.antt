use Rattle.std.proofs.Common.{◌+◌, sym, subst₂}
use Rattle.gj_limit_halves.specs.LimitLanes.{AreLeastOf, IsInRow, IsInRows}
use Rattle.gj_limit_halves.proofs.SquareLanes.{together, in_rows}
use Rattle.gj_limit_halves.proofs.lanes.least_of_all.Goals as goal

pub loop-a-preserved : goal.loop-a-preserved
loop-a-preserved c =
    let f = c.args.shape.now in
    let n = c.args.shape.now.order in
    let a = c.loop-a.a in
    subst₂ (AreLeastOf f (IsInRows n (a + 1))) (sym c.min-any.ensures)
    (sym c.min-beside_zero.ensures)
    (together f (IsInRows n a) (IsInRow a n) (IsInRows n (a + 1)) _ _ _ _
    (in_rows n a) c.loop-a.invariant
    c.least_in_row-row.ensures)
