use Rattle.std.proofs.Common.{IsTrue, arith}
use Rattle.gj_loops.specs.IndexSets.{has}
use Rattle.gj_limit_faces.proofs.SideRows.{row_by_sides}
use Rattle.gj_limit_faces.proofs.lanes.row_of.Goals as goal

pub overflow_add-first : goal.overflow_add-first
overflow_add-first g c =
    let high = c.order-order.ensures.limits.order_high in
    omega arith

pub returns : goal.returns
returns g c b =
    row_by_sides g.L.Lane.number g.L.Lane.least g.L.Lane.bound c.args.shape.now
    c.order-order.ensures.limits c.args.left.now c.args.value.now c.args.right.now c.requires.sides
    c.args.terms c.args.a b c.order-order.result c.pick-x.result.now c.pick-y.result.now
    c.pick-sum.result.now c.index-x-first.result (IsTrue (has c.of_sums.result b)) c.requires.right
    c.requires.above c.requires.within c.order-order.ensures.value c.pick-x.ensures c.pick-y.ensures
    c.pick-sum.ensures c.index-x-first.is (c.of_sums.ensures b c.index-x-first.result)
