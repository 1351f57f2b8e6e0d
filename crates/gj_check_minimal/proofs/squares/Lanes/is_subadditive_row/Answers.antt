use Rattle.std.proofs.Common.{arith}
use Rattle.std.proofs.lemmas.Int.{ints}
use Rattle.gj_check_minimal.specs.Tests.{IsSubadditiveAt}
use Rattle.gj_check_minimal.proofs.RowTests.{row_more}
use Rattle.gj_check_minimal.proofs.LanePieces.{has_part, part_below, square_excess}
use Rattle.gj_check_minimal.proofs.squares.Lanes.is_subadditive_row.Goals as goal

pub part-first-requires : goal.part-first-requires
part-first-requires g c =
    has_part g.L.Lane.number g.L.UnsignedLane.natural g.L.Lane.least g.L.Lane.bound c.args.shape.now
    c.args.self g.met.L.UnsignedLane.is_natural
    c.order-order.ensures.limits c.requires.lanes c.args.a (omega arith)

pub part-requires : goal.part-requires
part-requires g c =
    has_part g.L.Lane.number g.L.UnsignedLane.natural g.L.Lane.least g.L.Lane.bound c.args.shape.now
    c.args.self g.met.L.UnsignedLane.is_natural
    c.order-order.ensures.limits c.requires.lanes _ (omega arith)

pub part-requires-in-loop-b : goal.part-requires-in-loop-b
part-requires-in-loop-b g c =
    has_part g.L.Lane.number g.L.UnsignedLane.natural g.L.Lane.least g.L.Lane.bound c.args.shape.now
    c.args.self g.met.L.UnsignedLane.is_natural
    c.order-order.ensures.limits c.requires.lanes _ (omega arith)

pub part-requires-in-loop-b-2 : goal.part-requires-in-loop-b-2
part-requires-in-loop-b-2 g c =
    has_part g.L.Lane.number g.L.UnsignedLane.natural g.L.Lane.least g.L.Lane.bound c.args.shape.now
    c.args.self g.met.L.UnsignedLane.is_natural
    c.order-order.ensures.limits c.requires.lanes _ (omega arith)

pub of-excess-requires-clause-low : goal.of-excess-requires-clause-low
of-excess-requires-clause-low g c = let zero = g.met.L.UnsignedLane.from_zero in omega (arith, ints)

pub of-excess-requires-clause-high : goal.of-excess-requires-clause-high
of-excess-requires-clause-high g c =
    let small = (part_below g.L.Lane.number g.L.UnsignedLane.natural g.L.Lane.least g.L.Lane.bound
    c.args.shape.now c.args.self g.met.L.UnsignedLane.is_natural
    c.order-order.ensures.limits c.requires.lanes c.args.a _
    (omega arith) c.part-first.ensures).0 in
    omega (arith, ints)

pub excess_in_square-here-requires-clause-first : goal.excess_in_square-here-requires-clause-first
excess_in_square-here-requires-clause-first g c =
    part_below g.L.Lane.number g.L.UnsignedLane.natural g.L.Lane.least g.L.Lane.bound
    c.args.shape.now c.args.self g.met.L.UnsignedLane.is_natural
    c.order-order.ensures.limits c.requires.lanes c.args.a _
    (omega arith) c.part-first.ensures

pub excess_in_square-here-requires-clause-second : goal.excess_in_square-here-requires-clause-second
excess_in_square-here-requires-clause-second g c =
    part_below g.L.Lane.number g.L.UnsignedLane.natural g.L.Lane.least g.L.Lane.bound
    c.args.shape.now c.args.self g.met.L.UnsignedLane.is_natural
    c.order-order.ensures.limits c.requires.lanes c.loop-b.b _
    (omega arith) c.part.ensures

pub loop-b-preserved : goal.loop-b-preserved
loop-b-preserved g c =
    let a = c.args.a in
    let b = c.loop-b.b in
    let here = square_excess g.L.Lane.number g.L.UnsignedLane.natural g.L.Lane.least g.L.Lane.bound
    c.args.shape.now c.args.self g.met.L.UnsignedLane.is_natural
    c.order-order.ensures.limits c.requires.lanes a b _
    _ _ _ _ c.requires.within (omega arith) c.part-first.ensures c.part.ensures
    c.part-in-loop-b.ensures c.part-in-loop-b-2.ensures
    c.excess_in_square-here.ensures in
    row_more (IsSubadditiveAt c.args.shape.now a) a b _ _ _ c.loop-b.auto.b c.greater-excess.ensures
    c.loop-b.invariant here

pub returns : goal.returns
returns g c = (
  λ none b from below. c.loop-b.invariant.0 (c.is_zero.ensures.0 none) b (omega arith) from,
  λ all. c.is_zero.ensures.1 (c.loop-b.invariant.1 (λ b below from. all b from (omega arith))),
)
