use Rattle.std.proofs.Common.{◌+◌, arith}
use Rattle.gj_loops.specs.IndexSets.{has}
use Rattle.gj_limit_faces.proofs.MendedRows.{moved_plain, moved_turned}
use Rattle.gj_limit_faces.proofs.square_row.moved.Goals as goal

pub returns-then-terms-eq0 : goal.returns-then-terms-eq0
returns-then-terms-eq0 c b =
    moved_plain c.args.shape.now c.order-order.ensures.limits (c.args.a + c.args.terms.right) b
    c.args.terms.above c.args.values.now c.if-terms-eq0.true c.requires.values

pub returns : goal.returns
returns c b =
    let some = c.if-terms-eq0.false in
    let most = c.requires.above in
    moved_turned c.args.shape.now c.order-order.ensures.limits (c.args.a + c.args.terms.right) b
    c.args.terms.above c.order-order.result c.args.values.now (has c.turned_down.result b)
    (omega (arith, some, most)) c.order-order.ensures.value c.requires.values
    (c.turned_down.ensures b)
