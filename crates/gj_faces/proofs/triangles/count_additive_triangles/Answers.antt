use Rattle.std.proofs.Common.{[], refl, arith}
use Rattle.gj_faces.specs.Picked.{none}
use Rattle.gj_faces.proofs.CountedTriangles.{counted_rows}
use Rattle.gj_faces.proofs.triangles.count_additive_triangles.Goals as goal

pub loop-a-init : goal.loop-a-init
loop-a-init c = (([], none, refl), omega arith)

pub loop-a-preserved : goal.loop-a-preserved
loop-a-preserved c =
    let f = c.args.shape.now in
    let few = c.count_in_row-count.ensures.few in
    let before = c.loop-a.invariant.1 in (
      counted_rows f f.order c.loop-a.a c.loop-a.count c.count_in_row-count.result
          c.loop-a.invariant.0 c.count_in_row-count.ensures.count,
      omega arith,
    )
