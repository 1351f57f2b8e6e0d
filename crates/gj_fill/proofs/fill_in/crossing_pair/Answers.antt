use Rattle.std.proofs.Common.{◌<◌, ◌+ℤ◌, ◌<ℤ◌, ℤ, pos, sym, ap, subst, ◌∙◌, arith}
use Rattle.gj_shape.specs.FunctionData.{at}
use Rattle.gj_shape.specs.TwoSlopes.{rise}
use Rattle.gj_fill.proofs.FillPairs.{itself, itself_small, small_sum, positive_sum, scale_itself, place_ratio, height_ratio}
use Rattle.gj_fill.proofs.fill_in.crossing_pair.Goals as goal

pub overflow_add-width : goal.overflow_add-width
overflow_add-width c =
    (small_sum c.args.steps.rise c.args.steps.fall c.args.steps.rise_small
    c.args.steps.fall_small).fits

pub overflow_add-part : goal.overflow_add-part
overflow_add-part c =
    (small_sum c.rise_at.result c.args.steps.fall c.rise_at.ensures.small
    c.args.steps.fall_small).fits

pub place_over-x-requires-clause-part : goal.place_over-x-requires-clause-part
place_over-x-requires-clause-part c =
    (small_sum c.rise_at.result c.args.steps.fall c.rise_at.ensures.small
    c.args.steps.fall_small).small

pub place_over-x-requires-clause-wide : goal.place_over-x-requires-clause-wide
place_over-x-requires-clause-wide c =
    subst (λ (z : ℤ). pos 0 <ℤ z)
    (sym (small_sum c.args.steps.rise c.args.steps.fall c.args.steps.rise_small
    c.args.steps.fall_small).value)
    (positive_sum c.args.steps.rise c.args.steps.fall
    (rise c.args.shape.now c.args.a) c.requires.above c.requires.below)

pub place_over-x-requires-clause-narrow : goal.place_over-x-requires-clause-narrow
place_over-x-requires-clause-narrow c =
    (small_sum c.args.steps.rise c.args.steps.fall c.args.steps.rise_small
    c.args.steps.fall_small).small

pub height_over-requires-clause-scale : goal.height_over-requires-clause-scale
height_over-requires-clause-scale c =
    let low = c.common_denominator-scale.ensures.limits.scale_low in
    subst (λ n. 0 < n)
    (sym (scale_itself c.common_denominator-scale.result c.args.shape.now.scale
    c.common_denominator-scale.ensures.value
    c.common_denominator-scale.ensures.limits.scale_high))
    (omega arith)

pub height_over-requires-clause-value : goal.height_over-requires-clause-value
height_over-requires-clause-value c =
    itself_small c.value_numerator-value.result
    (let small = c.value_numerator-value.ensures.small in omega arith)

pub height_over-requires-clause-rise : goal.height_over-requires-clause-rise
height_over-requires-clause-rise c = itself_small c.args.steps.rise c.args.steps.rise_small

pub height_over-requires-clause-part : goal.height_over-requires-clause-part
height_over-requires-clause-part c =
    (small_sum c.rise_at.result c.args.steps.fall c.rise_at.ensures.small
    c.args.steps.fall_small).small

pub height_over-requires-clause-wide : goal.height_over-requires-clause-wide
height_over-requires-clause-wide c =
    subst (λ (z : ℤ). pos 0 <ℤ z)
    (sym (small_sum c.args.steps.rise c.args.steps.fall c.args.steps.rise_small
    c.args.steps.fall_small).value)
    (positive_sum c.args.steps.rise c.args.steps.fall
    (rise c.args.shape.now c.args.a) c.requires.above c.requires.below)

pub height_over-requires-clause-narrow : goal.height_over-requires-clause-narrow
height_over-requires-clause-narrow c =
    (small_sum c.args.steps.rise c.args.steps.fall c.args.steps.rise_small
    c.args.steps.fall_small).small

pub returns : goal.returns
returns c =
    let f = c.args.shape.now in
    let a = c.args.a in
    let s = c.args.steps.rise in
    let t = c.args.steps.fall in
    let s_is = itself s c.args.steps.rise_small in
    let width_is = (small_sum s t c.args.steps.rise_small c.args.steps.fall_small).value in
    let part_is = (small_sum c.rise_at.result t c.rise_at.ensures.small
    c.args.steps.fall_small).value ∙ ap (λ z. z +ℤ t) c.rise_at.ensures.value in
    let value = itself c.value_numerator-value.result
    (let small = c.value_numerator-value.ensures.small in omega arith) in
    let scale_is = scale_itself c.common_denominator-scale.result f.scale
    c.common_denominator-scale.ensures.value
    c.common_denominator-scale.ensures.limits.scale_high in
    record {
      x = place_ratio c.place_over-x.result a c.order.result f.order _ (rise f a +ℤ t) _
          (s +ℤ t) c.place_over-x.ensures
          c.order.ensures.value part_is width_is;
      value = height_ratio c.height_over.result _ f.scale _ (at f.value a) _ s _ (rise f a +ℤ t) _
          (s +ℤ t) c.height_over.ensures
          scale_is (value ∙ c.value_numerator-value.ensures.value) s_is part_is width_is;
    }
