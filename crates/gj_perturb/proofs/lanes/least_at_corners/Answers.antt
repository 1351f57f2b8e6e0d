use Rattle.std.proofs.Common.{◌+◌, sym, subst, arith}
use Rattle.gj_perturb.specs.Lanes.{IsLeastAt, IsInRows}
use Rattle.gj_perturb.proofs.LaneSlacks.{no_corner, one_row_of_corners_more}
use Rattle.gj_perturb.proofs.lanes.least_at_corners.Goals as goal

pub loop-i-init : goal.loop-i-init
loop-i-init c = no_corner c.args.lanes.now c.args.n (IsInRows c.args.n 0)
    (λ a b (low, from, below). omega arith)

pub loop-i-preserved : goal.loop-i-preserved
loop-i-preserved c =
    let lanes = c.args.lanes.now in
    let n = c.args.n in
    let i = c.loop-i.i in
    subst (IsLeastAt lanes n (IsInRows n (i + 1))) (sym c.min-least.ensures)
    (one_row_of_corners_more lanes n i _ _ c.loop-i.invariant c.least_in_row_of_corners.ensures)
