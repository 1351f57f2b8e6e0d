use Rattle.std.proofs.Common.{◌+◌, ◌≤◌, below_more, arith}
use Rattle.gj_theory.specs.EarlierTests.{PassesSquare}
use Rattle.gj_theory.proofs.Lanes.{max_zero}
use Rattle.gj_minimal.proofs.NumbersInLanes.{in_range_from_0, read_at}
use Rattle.gj_minimal.proofs.FailedFaces.{square_from_naturals}
use Rattle.gj_minimal.proofs.squares.squares_pass.Goals as goal

pub plus-requires-clause-first : goal.plus-requires-clause-first
plus-requires-clause-first g c =
    let len = c.order-order.ensures.limits.right_length in
    (read_at g.L.Lane.number g.L.UnsignedLane.natural c.args.a g.met.L.UnsignedLane.from_zero
    g.met.L.UnsignedLane.is_natural c.requires.lanes.rights
    (omega arith) c.index-rights-a.is).small

pub plus-requires-clause-second : goal.plus-requires-clause-second
plus-requires-clause-second g c =
    let len = c.order-order.ensures.limits.value_length in
    (read_at g.L.Lane.number g.L.UnsignedLane.natural c.loop-b.b g.met.L.UnsignedLane.from_zero
    g.met.L.UnsignedLane.is_natural c.requires.lanes.values
    (omega arith) c.index-values-b.is).small

pub plus-requires-in-loop-b-clause-first : goal.plus-requires-in-loop-b-clause-first
plus-requires-in-loop-b-clause-first g c =
    let len = c.order-order.ensures.limits.right_length in
    let small = (read_at g.L.Lane.number g.L.UnsignedLane.natural c.args.a
    g.met.L.UnsignedLane.from_zero g.met.L.UnsignedLane.is_natural c.requires.lanes.rights
    (omega arith) c.index-rights-a.is).small in
    let least = c.lesser-least_first.ensures in
    omega arith

pub plus-requires-in-loop-b-clause-second : goal.plus-requires-in-loop-b-clause-second
plus-requires-in-loop-b-clause-second g c =
    let len = c.order-order.ensures.limits.right_length in
    (read_at g.L.Lane.number g.L.UnsignedLane.natural c.loop-b.b g.met.L.UnsignedLane.from_zero
    g.met.L.UnsignedLane.is_natural c.requires.lanes.rights
    (omega arith) c.index-rights-b.is).small

pub plus-requires-in-loop-b-2-clause-first : goal.plus-requires-in-loop-b-2-clause-first
plus-requires-in-loop-b-2-clause-first g c =
    let len = c.order-order.ensures.limits.left_length in
    (read_at g.L.Lane.number g.L.UnsignedLane.natural (c.args.a + 1) g.met.L.UnsignedLane.from_zero
    g.met.L.UnsignedLane.is_natural c.requires.lanes.lefts
    (omega arith) c.index-lefts-a.is).small

pub plus-requires-in-loop-b-2-clause-second : goal.plus-requires-in-loop-b-2-clause-second
plus-requires-in-loop-b-2-clause-second g c =
    let len = c.order-order.ensures.limits.value_length in
    let small = (read_at g.L.Lane.number g.L.UnsignedLane.natural c.loop-b.b
    g.met.L.UnsignedLane.from_zero g.met.L.UnsignedLane.is_natural c.requires.lanes.values
    (omega arith) c.index-values-b.is).small in
    let least = c.lesser-least.ensures in
    omega arith

pub plus-requires-in-loop-b-3-clause-first : goal.plus-requires-in-loop-b-3-clause-first
plus-requires-in-loop-b-3-clause-first g c =
    let len = c.order-order.ensures.limits.right_length in
    let small = (read_at g.L.Lane.number g.L.UnsignedLane.natural c.args.a
    g.met.L.UnsignedLane.from_zero g.met.L.UnsignedLane.is_natural c.requires.lanes.rights
    (omega arith) c.index-rights-a.is).small in
    let least = c.lesser-least_first.ensures in
    omega arith

pub plus-requires-in-loop-b-3-clause-second : goal.plus-requires-in-loop-b-3-clause-second
plus-requires-in-loop-b-3-clause-second g c =
    let len = c.order-order.ensures.limits.left_length in
    (read_at g.L.Lane.number g.L.UnsignedLane.natural
    (c.loop-b.b + 1) g.met.L.UnsignedLane.from_zero g.met.L.UnsignedLane.is_natural
    c.requires.lanes.lefts (omega arith) c.index-lefts-b.is).small

pub plus-requires-in-loop-b-4-clause-first : goal.plus-requires-in-loop-b-4-clause-first
plus-requires-in-loop-b-4-clause-first g c =
    let len = c.order-order.ensures.limits.left_length in
    (read_at g.L.Lane.number g.L.UnsignedLane.natural (c.args.a + 1) g.met.L.UnsignedLane.from_zero
    g.met.L.UnsignedLane.is_natural c.requires.lanes.lefts
    (omega arith) c.index-lefts-a.is).small

pub plus-requires-in-loop-b-4-clause-second : goal.plus-requires-in-loop-b-4-clause-second
plus-requires-in-loop-b-4-clause-second g c =
    let len = c.order-order.ensures.limits.right_length in
    (read_at g.L.Lane.number g.L.UnsignedLane.natural c.loop-b.b g.met.L.UnsignedLane.from_zero
    g.met.L.UnsignedLane.is_natural c.requires.lanes.rights
    (omega arith) c.index-rights-b.is).small

pub plus-requires-in-loop-b-5-clause-first : goal.plus-requires-in-loop-b-5-clause-first
plus-requires-in-loop-b-5-clause-first g c =
    let len = c.order-order.ensures.limits.right_length in
    (read_at g.L.Lane.number g.L.UnsignedLane.natural c.args.a g.met.L.UnsignedLane.from_zero
    g.met.L.UnsignedLane.is_natural c.requires.lanes.rights
    (omega arith) c.index-rights-a.is).small

pub plus-requires-in-loop-b-5-clause-second : goal.plus-requires-in-loop-b-5-clause-second
plus-requires-in-loop-b-5-clause-second g c =
    let len = c.order-order.ensures.limits.left_length in
    (read_at g.L.Lane.number g.L.UnsignedLane.natural
    (c.loop-b.b + 1) g.met.L.UnsignedLane.from_zero g.met.L.UnsignedLane.is_natural
    c.requires.lanes.lefts (omega arith) c.index-lefts-b.is).small

pub plus-requires-in-loop-b-6-clause-first : goal.plus-requires-in-loop-b-6-clause-first
plus-requires-in-loop-b-6-clause-first g c =
    let len = c.order-order.ensures.limits.left_length in
    (read_at g.L.Lane.number g.L.UnsignedLane.natural (c.args.a + 1) g.met.L.UnsignedLane.from_zero
    g.met.L.UnsignedLane.is_natural c.requires.lanes.lefts
    (omega arith) c.index-lefts-a.is).small

pub plus-requires-in-loop-b-6-clause-second : goal.plus-requires-in-loop-b-6-clause-second
plus-requires-in-loop-b-6-clause-second g c =
    let len = c.order-order.ensures.limits.left_length in
    (read_at g.L.Lane.number g.L.UnsignedLane.natural
    (c.loop-b.b + 1) g.met.L.UnsignedLane.from_zero g.met.L.UnsignedLane.is_natural
    c.requires.lanes.lefts (omega arith) c.index-lefts-b.is).small

pub loop-b-preserved : goal.loop-b-preserved
loop-b-preserved g c none =
    let f = c.args.shape.now in
    let a = c.args.a in
    let b = c.loop-b.b in
    let h = c.requires.lanes in
    let zero = g.met.L.UnsignedLane.from_zero in
    let left_length = c.order-order.ensures.limits.left_length in
    let value_length = c.order-order.ensures.limits.value_length in
    let right_length = c.order-order.ensures.limits.right_length in
    let right_first = (read_at g.L.Lane.number g.L.UnsignedLane.natural c.args.a
    g.met.L.UnsignedLane.from_zero g.met.L.UnsignedLane.is_natural c.requires.lanes.rights
    (omega arith) c.index-rights-a.is).is in
    let left_first = (read_at g.L.Lane.number g.L.UnsignedLane.natural
    (c.args.a + 1) g.met.L.UnsignedLane.from_zero g.met.L.UnsignedLane.is_natural
    c.requires.lanes.lefts (omega arith) c.index-lefts-a.is).is in
    let value_first = (read_at g.L.Lane.number g.L.UnsignedLane.natural c.args.a
    g.met.L.UnsignedLane.from_zero g.met.L.UnsignedLane.is_natural c.requires.lanes.values
    (omega arith) c.index-values-a.is).is in
    let value = (read_at g.L.Lane.number g.L.UnsignedLane.natural c.loop-b.b
    g.met.L.UnsignedLane.from_zero g.met.L.UnsignedLane.is_natural c.requires.lanes.values
    (omega arith) c.index-values-b.is).is in
    let right = (read_at g.L.Lane.number g.L.UnsignedLane.natural c.loop-b.b
    g.met.L.UnsignedLane.from_zero g.met.L.UnsignedLane.is_natural c.requires.lanes.rights
    (omega arith) c.index-rights-b.is).is in
    let left = (read_at g.L.Lane.number g.L.UnsignedLane.natural
    (c.loop-b.b + 1) g.met.L.UnsignedLane.from_zero g.met.L.UnsignedLane.is_natural
    c.requires.lanes.lefts (omega arith) c.index-lefts-b.is).is in
    let right_at_sum = (read_at g.L.Lane.number g.L.UnsignedLane.natural
    (c.args.a + c.loop-b.b) g.met.L.UnsignedLane.from_zero g.met.L.UnsignedLane.is_natural
    c.requires.lanes.rights (omega arith) c.index-rights-sum.is).is in
    let left_at_next = (read_at g.L.Lane.number g.L.UnsignedLane.natural
    (c.args.a + c.loop-b.b + 1) g.met.L.UnsignedLane.from_zero g.met.L.UnsignedLane.is_natural
    c.requires.lanes.lefts (omega arith) c.index-lefts-next.is).is in
    let value_at_next = (read_at g.L.Lane.number g.L.UnsignedLane.natural
    (c.args.a + c.loop-b.b + 1) g.met.L.UnsignedLane.from_zero g.met.L.UnsignedLane.is_natural
    c.requires.lanes.values (omega arith) c.index-values-next.is).is in
    let right_at_next = (read_at g.L.Lane.number g.L.UnsignedLane.natural
    (c.args.a + c.loop-b.b + 1) g.met.L.UnsignedLane.from_zero g.met.L.UnsignedLane.is_natural
    c.requires.lanes.rights (omega arith) c.index-rights-next.is).is in
    let left_at_last = (read_at g.L.Lane.number g.L.UnsignedLane.natural
    (c.args.a + c.loop-b.b + 1 + 1) g.met.L.UnsignedLane.from_zero
    g.met.L.UnsignedLane.is_natural c.requires.lanes.lefts
    (omega arith) c.index-lefts-next-in-loop-b.is).is in
    let least_first = c.lesser-least_first.ensures in
    let least = c.lesser-least.ensures in
    let greatest = c.greater-greatest.ensures in
    let p1 = c.plus.ensures in
    let p2 = c.plus-in-loop-b.ensures in
    let p3 = c.plus-in-loop-b-2.ensures in
    let p4 = c.plus-in-loop-b-3.ensures in
    let p5 = c.plus-in-loop-b-4.ensures in
    let p6 = c.plus-in-loop-b-5.ensures in
    let p7 = c.plus-in-loop-b-6.ensures in
    let last = c.excess_over-before_last.ensures in
    let four = (max_zero _ _ _ c.greater-excess.ensures).0 none in
    let three = (max_zero _ _ _ c.greater-in-loop-b-2.ensures).0 four.0 in
    let two = (max_zero _ _ _ c.greater-in-loop-b.ensures).0 three.0 in
    let one = (max_zero _ _ _ c.greater.ensures).0 two.0 in
    let at_sum = c.above-at_sum.ensures one.1 in
    let before_next = c.above-before_next.ensures two.1 in
    let at_next = c.above-at_next.ensures three.1 in
    let before_last = four.1 in
    let s0 = at_sum.0 in
    let s1 = at_sum.1 in
    let n0 = before_next.0 in
    let n1 = before_next.1 in
    let x0 = at_next.0 in
    let x1 = at_next.1 in
    below_more (λ b. a ≤ b → PassesSquare f a b) b (c.loop-b.invariant one.0)
    (λ from. square_from_naturals g.L.Lane.bound f a b (in_range_from_0 _ zero h.lefts.range)
    (in_range_from_0 _ zero h.values.range)
    (in_range_from_0 _ zero h.rights.range) c.requires.vertices c.requires.within (omega arith)
    (record {
      at_sum = (omega arith, omega arith);
      before_next = (omega arith, omega arith);
      at_next = (omega arith, omega arith);
      before_last = omega arith;
    }))

pub returns : goal.returns
returns g c = λ none b from below. c.loop-b.invariant (c.is_zero.ensures.0 none) b
    (omega arith) from
