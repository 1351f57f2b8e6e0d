use Rattle.gj_limit_faces.proofs.MendedRows.{jumps_more}
use Rattle.gj_limit_faces.proofs.jumps.few_jumps.Goals as goal

pub loop-i-preserved : goal.loop-i-preserved
loop-i-preserved c =
    rw c.in_ok-push.ensures.items (jumps_more c.args.shape.now c.loop-i.jumps.items c.loop-i.i
    c.loop-i.invariant.0 c.loop-i.invariant.1)
