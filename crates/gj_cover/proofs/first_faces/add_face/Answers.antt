use Rattle.gj_shape.specs.Additive.{IsAdditive}
use Rattle.gj_cover.specs.Table.{IsTightInTable}
use Rattle.gj_cover.proofs.Adding.{passed, put}
use Rattle.gj_cover.proofs.first_faces.add_face.Goals as goal

pub returns-then-is_reached : goal.returns-then-is_reached
returns-then-is_reached c =
    passed (IsAdditive (IsTightInTable c.args.table.now)) c.args.kind c.args.a c.args.b
    c.args.found.now
    (λ p. c.is_reached.ensures.0 c.if-is_reached.true)

pub returns-then-is_additive : goal.returns-then-is_additive
returns-then-is_additive c =
    put (IsAdditive (IsTightInTable c.args.table.now)) c.args.kind c.args.a c.args.b
    c.args.found.now
    (λ r. let reached = c.is_reached.ensures.1 r in cc (reached, c.if-is_reached.false))
    (c.is_additive.ensures.0 c.if-is_additive.true)

pub returns-else-is_additive : goal.returns-else-is_additive
returns-else-is_additive c =
    passed (IsAdditive (IsTightInTable c.args.table.now)) c.args.kind c.args.a c.args.b
    c.args.found.now
    (λ p. let additive = c.is_additive.ensures.1 p in
    absurd (cc (additive, c.if-is_additive.false)))
