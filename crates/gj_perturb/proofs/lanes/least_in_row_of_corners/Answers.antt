use Rattle.std.proofs.Common.{◌+◌, sym, subst, arith}
use Rattle.gj_perturb.specs.Lanes.{IsLeastAt, IsInRow}
use Rattle.gj_perturb.proofs.LaneSlacks.{no_corner, one_corner, one_corner_more}
use Rattle.gj_perturb.proofs.lanes.least_in_row_of_corners.Goals as goal

pub loop-j-init : goal.loop-j-init
loop-j-init c =
    no_corner c.args.lanes.now c.args.n (IsInRow c.args.i c.args.i)
    (λ a b (e, from, below). omega arith)

pub loop-j-preserved : goal.loop-j-preserved
loop-j-preserved c =
    let lanes = c.args.lanes.now in
    let n = c.args.n in
    let i = c.args.i in
    let j = c.loop-j.j in
    subst (IsLeastAt lanes n (IsInRow i (j + 1))) (sym c.min-least.ensures)
    (one_corner_more lanes n i j _ _ c.loop-j.invariant
    (one_corner lanes n i j c.requires.lanes c.requires.below c.loop-j-test.true))
