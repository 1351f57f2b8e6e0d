use Rattle.gj_fill.proofs.FillPairs.{points_more}
use Rattle.gj_fill.proofs.fill_in.points_of.Goals as goal

pub loop-a-preserved : goal.loop-a-preserved
loop-a-preserved c =
    let e = c.in_ok-push_points.ensures in
    points_more c.args.shape.now c.args.steps.rise c.args.steps.fall c.loop-a.a
    c.loop-a.points.items
    e.0 c.push_points.new.points.items c.loop-a.invariant e.1 e.2
