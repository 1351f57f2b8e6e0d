use Rattle.std.proofs.Common.{◌≡◌, ◌*◌, ◌/◌, ◌%◌, unsigned_abs, to_z, of_z, ap, ◌∙◌, arith}
use mir.Syntax.{w128}
use Rattle.std.proofs.lemmas.Int.{ints, to_z-of_z}
use Rattle.gj_check.proofs.HalvesTests.{no_rest, quotient_of_multiple, no_rest_by}
use Rattle.gj_check.proofs.halves.refinement_of.Goals as goal

pub returns-then-order-own_order-ne0-clause-none :
    goal.returns-then-order-own_order-ne0-clause-none
returns-then-order-own_order-ne0-clause-none c (m, n, order, scale) =
    c.if-order-own_order-ne0.true
    (ap (λ k. c.args.order % k) c.order-own_order.ensures.value
    ∙ no_rest c.args.order c.args.shape.now.order m order)

pub returns-then-whole-unit-ne0-clause-none : goal.returns-then-whole-unit-ne0-clause-none
returns-then-whole-unit-ne0-clause-none c (m, n, order, scale) =
    let s = c.args.scale in
    let f = c.args.shape.now in
    let l = c.order-own_order.ensures.limits in
    let low = l.order_low in
    let high = l.scale_high in
    let common = c.common_denominator.ensures.value in
    let unit : unsigned_abs (to_z w128 (of_z w128 c.common_denominator.result)) ≡ f.scale =
    omega (arith, ints) in
    let read : to_z w128 (of_z w128 s) ≡ s = to_z-of_z w128 s c.ranges.scale in
    let whole : unsigned_abs (to_z w128 (of_z w128 s)) ≡ n * (f.scale * m) =
    omega (arith, ints) in
    let times : c.from.result ≡ m = c.from.ensures
    ∙ ap (λ k. c.args.order / k) c.order-own_order.ensures.value
    ∙ quotient_of_multiple c.args.order f.order m (omega arith) order in
    c.if-whole-unit-ne0.true (no_rest_by _ _ _ n f.scale m whole unit times)
