use Rattle.std.proofs.Common.{arith}
use Rattle.gj_limit_faces.proofs.JoinRows.{one_more}
use Rattle.gj_limit_faces.proofs.joins.Joins.new.Goals as goal

pub loop-a-preserved : goal.loop-a-preserved
loop-a-preserved c = (
  rw c.push_reserved.ensures.items (one_more c.args.shape.now c.loop-a.rows.items c.loop-a.a
      c.of.result
      c.loop-a.invariant.0 c.of.ensures),
  omega (arith, c.loop-a.invariant.1),
  c.value_row-end.ensures,
)
