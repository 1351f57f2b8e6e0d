use Rattle.gj_minimal.proofs.FailedFaces.{continuous_passes}
use Rattle.gj_minimal.proofs.faces.failed_face.Goals as goal

pub returns-then-is_continuous-clause-none : goal.returns-then-is_continuous-clause-none
returns-then-is_continuous-clause-none c = λ a a_below b b_below.
    continuous_passes c.args.shape.now a b c.order-order.ensures.limits
    (c.requires.continuous c.if-is_continuous.true) c.requires.vertices
