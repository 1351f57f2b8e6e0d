use Rattle.std.proofs.Common.{subst}
use Rattle.gj_jumps.specs.LimitCover.{IsTightAt}
use Rattle.gj_shape.specs.declared.faces.Face.{Face}
use Rattle.gj_shape.specs.declared.faces.FaceKind.TheVariants.{Lower, Upper}
use Rattle.gj_cover.specs.FirstFound.{AddsFirst, IsThis}
use Rattle.gj_cover.proofs.Adding.{EitherOf, both_added}
use Rattle.gj_limit_cover.specs.FirstFaces.{LinksAs}
use Rattle.gj_limit_cover.proofs.faces.add_three.Goals as goal

pub returns : goal.returns
returns c =
    let P = LinksAs c.args.shape.now.order (IsTightAt c.args.shape.now) c.args.is_asked c.args.i
    c.args.j in
    let found = c.args.found.now in
    let one = IsThis c.args.kind c.args.square.0 c.args.square.1 in
    let two = IsThis Lower c.args.square.0 c.args.square.1 in
    let three = IsThis Upper c.args.other.0 c.args.other.1 in
    both_added (EitherOf one two) three P found c.add_face-2.new.found c.add_face-3.new.found
    (both_added one two P found c.add_face.new.found c.add_face-2.new.found
    (subst (λ (g : Face). AddsFirst (IsThis g.kind g.a g.b) P found c.add_face.new.found)
    c.face_of.ensures c.add_face.ensures)
    (subst (λ (g : Face). AddsFirst (IsThis g.kind g.a g.b) P c.add_face.new.found
    c.add_face-2.new.found)
    c.face_of-2.ensures c.add_face-2.ensures))
    (subst (λ (g : Face). AddsFirst (IsThis g.kind g.a g.b) P c.add_face-2.new.found
    c.add_face-3.new.found)
    c.face_of-3.ensures c.add_face-3.ensures)
