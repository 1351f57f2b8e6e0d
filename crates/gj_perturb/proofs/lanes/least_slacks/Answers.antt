use Rattle.std.proofs.Common.{◌+◌, sym, subst₂}
use Rattle.gj_perturb.specs.Lanes.{AreLeast, IsInRows}
use Rattle.gj_perturb.proofs.LaneSlacks.{one_row_more}
use Rattle.gj_perturb.proofs.lanes.least_slacks.Goals as goal

pub loop-i-preserved : goal.loop-i-preserved
loop-i-preserved c =
    let lanes = c.args.lanes.now in
    let n = c.args.n in
    let i = c.loop-i.i in
    subst₂ (AreLeast lanes n (IsInRows n (i + 1))) (sym c.min-any.ensures)
    (sym c.min-beside_zero.ensures)
    (one_row_more lanes n i _ _ _ _ c.loop-i.invariant c.least_in_row-row.ensures)
