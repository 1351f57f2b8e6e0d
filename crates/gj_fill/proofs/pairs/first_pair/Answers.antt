use Rattle.std.proofs.Common.{arith}
use Rattle.gj_fill.proofs.FirstPairs.{first_pair_is, none_more, subadditive_from_none}
use Rattle.gj_fill.proofs.pairs.first_pair.Goals as goal

pub returns-in-Some-clause-found : goal.returns-in-Some-clause-found
returns-in-Some-clause-found c =
    first_pair_is c.args.shape.now c.loop-a.a c.in-Some.b
    (omega arith) c.in-Some.ensures.below c.loop-a.invariant c.in-Some.ensures.found

pub loop-a-preserved : goal.loop-a-preserved
loop-a-preserved c =
    none_more c.args.shape.now c.loop-a.a c.loop-a.invariant c.in_default.ensures.none

pub returns-clause-none : goal.returns-clause-none
returns-clause-none c =
    subadditive_from_none c.args.shape.now c.loop-a.a c.order-a-end.ensures.limits (omega arith)
    (omega arith) c.loop-a.invariant
