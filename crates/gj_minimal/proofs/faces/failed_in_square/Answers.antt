use Rattle.std.proofs.Common.{below_more, arith}
use Rattle.gj_minimal.proofs.FailedFaces.{PassesKind, face_in_square, reached, corner_fails, kinds_pass}
use Rattle.gj_minimal.proofs.faces.failed_in_square.Goals as goal

pub returns-in-Some-clause-found : goal.returns-in-Some-clause-found
returns-in-Some-clause-found c =
    let r = reached c.args.shape.now c.of-square.result c.args.a c.args.b c.requires.first
    c.requires.second
    c.requires.vertices c.requires.squares c.of-square.ensures in
    corner_fails r _ _ c.loop-kind-test.true c.loop-kind.invariant c.in-Some.ensures.found

pub loop-kind-preserved : goal.loop-kind-preserved
loop-kind-preserved c =
    let r = reached c.args.shape.now c.of-square.result c.args.a c.args.b c.requires.first
    c.requires.second
    c.requires.vertices c.requires.squares c.of-square.ensures in
    below_more (PassesKind c.args.shape.now c.args.a c.args.b) c.loop-kind.kind-index
    c.loop-kind.invariant
    (face_in_square r _ c.in_default.ensures.none)

pub returns-clause-none : goal.returns-clause-none
returns-clause-none c = kinds_pass (λ i below. c.loop-kind.invariant i (omega arith))
