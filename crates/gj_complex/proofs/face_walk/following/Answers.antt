use Rattle.std.proofs.Common.{◌+◌, ◌∙◌, sym}
use Rattle.gj_complex.proofs.WalkLemmas.{from_square, from_row, after_square, after_row}
use Rattle.gj_complex.proofs.face_walk.following.Goals as goal

pub returns-then-b-order-clause-rest : goal.returns-then-b-order-clause-rest
returns-then-b-order-clause-rest c =
    let face = c.args.face in
    from_square c.args.order face.a (face.b + 1) c.if-b-order.true
    ∙ sym (after_square c.args.order face c.in_default.ensures)

pub returns-then-a-order-clause-rest : goal.returns-then-a-order-clause-rest
returns-then-a-order-clause-rest c =
    let face = c.args.face in
    from_row c.args.order (face.a + 1) c.if-a-order.true
    ∙ sym (after_row c.args.order face c.in_default.ensures c.if-b-order.false)
