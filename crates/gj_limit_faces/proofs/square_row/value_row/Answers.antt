use Rattle.gj_limit_faces.proofs.MendedRows.{value_row_is}
use Rattle.gj_limit_faces.proofs.square_row.value_row.Goals as goal

pub returns : goal.returns
returns c =
    value_row_is c.args.shape.now c.order-order.ensures.limits c.args.a c.args.right c.row.result
    (c.is_continuous_at.ensures.0 c.if-not-is_continuous_at.false) c.row.ensures
