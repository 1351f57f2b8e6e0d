use Rattle.std.proofs.Common.{arith}
use Rattle.gj_shape.specs.Given.{IsSmall}
use Rattle.gj_shape.proofs.GivenLemmas.{given_by_numerators}
use Rattle.gj_shape.proofs.InOrder.{all_from_in_order}
use Rattle.gj_shape.proofs.LeastDenominator.{Divides}
use Rattle.gj_shape.proofs.shape.Shape.over.Goals as goal

pub numerators-requires-clause-small : goal.numerators-requires-clause-small
numerators-requires-clause-small c =
    (all_from_in_order IsSmall c.args.left.now c.args.value.now c.args.right.now (omega arith)
    (omega arith) c.requires.least.small).0

pub numerators-requires-clause-common : goal.numerators-requires-clause-common
numerators-requires-clause-common c =
    (all_from_in_order (Divides c.args.scale) c.args.left.now c.args.value.now c.args.right.now
    (omega arith) (omega arith) c.requires.least.least.common).0

pub numerators-requires-2-clause-small : goal.numerators-requires-2-clause-small
numerators-requires-2-clause-small c =
    (all_from_in_order IsSmall c.args.left.now c.args.value.now c.args.right.now (omega arith)
    (omega arith) c.requires.least.small).1

pub numerators-requires-2-clause-common : goal.numerators-requires-2-clause-common
numerators-requires-2-clause-common c =
    (all_from_in_order (Divides c.args.scale) c.args.left.now c.args.value.now c.args.right.now
    (omega arith) (omega arith) c.requires.least.least.common).1

pub numerators-requires-3-clause-small : goal.numerators-requires-3-clause-small
numerators-requires-3-clause-small c =
    (all_from_in_order IsSmall c.args.left.now c.args.value.now c.args.right.now (omega arith)
    (omega arith) c.requires.least.small).2

pub numerators-requires-3-clause-common : goal.numerators-requires-3-clause-common
numerators-requires-3-clause-common c =
    (all_from_in_order (Divides c.args.scale) c.args.left.now c.args.value.now c.args.right.now
    (omega arith) (omega arith) c.requires.least.least.common).2

pub invariant_of-result : goal.invariant_of-result
invariant_of-result c =
    (given_by_numerators _ _ _ c.args.left.now c.args.value.now c.args.right.now _ _ _
    c.requires.order c.requires.place
    c.requires.lengths c.requires.least c.in_ok-numerators.ensures c.in_ok-numerators-2.ensures
    c.in_ok-numerators-3.ensures).within

pub returns : goal.returns
returns c =
    given_by_numerators _ _ _ c.args.left.now c.args.value.now c.args.right.now _ _ _
    c.requires.order c.requires.place
    c.requires.lengths c.requires.least c.in_ok-numerators.ensures c.in_ok-numerators-2.ensures
    c.in_ok-numerators-3.ensures
