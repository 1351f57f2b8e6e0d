use Rattle.std.proofs.Common.{◌+◌, ◌*◌, ◌-◌, ℕ, pos, ◌+ℤ◌, ap₂, subst, ◌∙◌, arith}
use Rattle.std.proofs.lemmas.Int.{ints}
use Rattle.gj_frac.specs.Fraction.{IsRatio}
use Rattle.gj_shape.proofs.NumeratorReadings.{small_read}
use Rattle.gj_minimal.proofs.Readings.{sum_read}
use Rattle.gj_minimal.proofs.NearPoints.{fine_near_end, one_point, shows_after}
use Rattle.gj_minimal.proofs.shown.point_after.Goals as goal

pub point_near-requires-clause-fine : goal.point_near-requires-clause-fine
point_near-requires-clause-fine c =
    let sum_is = sum_read c.right_numerator-limit.result c.left_numerator.result
    c.right_numerator-limit.ensures.small
    c.left_numerator.ensures.small in
    let start = c.right_numerator-limit.ensures.value in
    let negative = c.requires.negative in
    let end = c.left_numerator.ensures.small in
    let high = c.order-order.ensures.limits.order_high in
    let order = c.order-order.ensures.value in
    fine_near_end c.order-order.result c.least_denominator-h.result _ (omega arith)
    (omega (arith, ints))
    c.least_denominator-h.ensures.bounded

pub returns-clause-shows : goal.returns-clause-shows
returns-clause-shows c =
    let f = c.args.shape.now in
    let h = c.least_denominator-h.result in
    let index = (h - 2) * c.args.i + (2 * c.args.i + 1) in
    let limit_is = small_read c.right_numerator-limit.result c.right_numerator-limit.ensures.small
    ∙ c.right_numerator-limit.ensures.value in
    let total_is = sum_read c.right_numerator-limit.result c.left_numerator.result
    c.right_numerator-limit.ensures.small
    c.left_numerator.ensures.small
    ∙ ap₂ (λ x y. x +ℤ y) c.right_numerator-limit.ensures.value c.left_numerator.ensures.value in
    shows_after f c.args.i h _ _ c.point_near.result limit_is total_is
    c.least_denominator-h.ensures.least
    (subst (λ (q : ℕ). IsRatio c.point_near.result (pos index) (pos (q * h)))
    c.order-order.ensures.value
    c.point_near.ensures.value)

pub returns-clause-points : goal.returns-clause-points
returns-clause-points c =
    let sum_is = sum_read c.right_numerator-limit.result c.left_numerator.result
    c.right_numerator-limit.ensures.small
    c.left_numerator.ensures.small in
    let start = c.right_numerator-limit.ensures.value in
    let negative = c.requires.negative in
    let end = c.left_numerator.ensures.small in
    let high = c.order-order.ensures.limits.order_high in
    let order = c.order-order.ensures.value in
    let from = c.least_denominator-h.ensures.least.from in
    let fine = fine_near_end c.order-order.result c.least_denominator-h.result _ (omega arith)
    (omega (arith, ints))
    c.least_denominator-h.ensures.bounded in
    one_point c.args.shape.now c.order-order.result c.least_denominator-h.result _
    c.point_near.result order
    (omega arith) fine
    c.point_near.ensures.below c.point_near.ensures.value
