use Rattle.std.proofs.Common.{◌+◌, sym, subst₂}
use Rattle.gj_limit_halves.specs.LimitLanes.{AreLeastOf, IsInRow, IsSquare}
use Rattle.gj_limit_halves.proofs.SquareLanes.{together, in_row}
use Rattle.gj_limit_halves.proofs.lanes.least_in_row.Goals as goal

pub loop-b-preserved : goal.loop-b-preserved
loop-b-preserved c =
    let f = c.args.shape.now in
    let a = c.args.a in
    let b = c.loop-b.b in
    subst₂ (AreLeastOf f (IsInRow a (b + 1))) (sym c.min-any.ensures)
    (sym c.min-beside_zero.ensures)
    (together f (IsInRow a b) (IsSquare a b) (IsInRow a (b + 1)) _ _ _ _
    (in_row a b) c.loop-b.invariant
    c.least_in_square-square.ensures)
