use Rattle.gj_shape.proofs.LeastDenominator.{least_with_three}
use Rattle.gj_shape.proofs.denominators.with_point.Goals as goal

pub returns-then-goes_with-3-clause-least : goal.returns-then-goes_with-3-clause-least
returns-then-goes_with-3-clause-least c =
    least_with_three _ _ _ _ _ _ _ (c.goes_with.ensures c.if-goes_with.true)
    (c.goes_with-then-goes_with.ensures c.if-goes_with-2.true)
    (c.goes_with-then-goes_with-2.ensures c.if-goes_with-3.true)
