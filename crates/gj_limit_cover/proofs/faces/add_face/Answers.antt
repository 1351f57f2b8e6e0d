use Rattle.gj_jumps.specs.LimitCover.{IsTightAt}
use Rattle.gj_cover.proofs.Adding.{passed, put}
use Rattle.gj_limit_cover.specs.FirstFaces.{LinksAs}
use Rattle.gj_limit_cover.proofs.faces.add_face.Goals as goal

pub returns-then-is_reached : goal.returns-then-is_reached
returns-then-is_reached c =
    passed (LinksAs c.args.shape.now.order (IsTightAt c.args.shape.now) c.args.is_asked c.args.i
    c.args.j)
    c.args.face.kind c.args.face.a c.args.face.b c.args.found.now
    (λ p. c.is_reached.ensures.0 c.if-is_reached.true)

pub returns-then-links_as : goal.returns-then-links_as
returns-then-links_as c =
    put (LinksAs c.args.shape.now.order (IsTightAt c.args.shape.now) c.args.is_asked c.args.i
    c.args.j)
    c.args.face.kind c.args.face.a c.args.face.b c.args.found.now
    (λ r. let reached = c.is_reached.ensures.1 r in cc (reached, c.if-is_reached.false))
    (c.links_as.ensures.0 c.if-links_as.true)

pub returns-else-links_as : goal.returns-else-links_as
returns-else-links_as c =
    passed (LinksAs c.args.shape.now.order (IsTightAt c.args.shape.now) c.args.is_asked c.args.i
    c.args.j)
    c.args.face.kind c.args.face.a c.args.face.b c.args.found.now
    (λ p. let links = c.links_as.ensures.1 p in absurd (cc (links, c.if-links_as.false)))
