use Rattle.std.proofs.Common.{◌<◌, ◌≤ℤ◌, ◌<ℤ◌, ℤ, pos, sym, subst, ◌∙◌, arith}
use Rattle.std.proofs.lemmas.Int.{ints}
use Rattle.gj_lemmas.proofs.Lesser.{min_first, min_second}
use Rattle.gj_fill.proofs.FillPairs.{itself, itself_small, wide_itself, wide_small, scale_itself}
use Rattle.gj_fill.proofs.FilledValues.{small_parts, value_by_lines}
use Rattle.gj_fill.proofs.at_fractions.filled_value.Goals as goal

pub lines_at-lines-requires-clause-within : goal.lines_at-lines-requires-clause-within
lines_at-lines-requires-clause-within c =
    subst (λ n. c.place_of-place.result.index < n) c.order.ensures.value
    c.place_of-place.ensures.index_below

pub lines_at-lines-requires-clause-parts : goal.lines_at-lines-requires-clause-parts
lines_at-lines-requires-clause-parts c =
    (small_parts _ c.args.x c.place_of-place.result c.place_of-place.ensures c.requires.fine).parts

pub lines_at-lines-requires-clause-part : goal.lines_at-lines-requires-clause-part
lines_at-lines-requires-clause-part c =
    (small_parts _ c.args.x c.place_of-place.result c.place_of-place.ensures c.requires.fine).part

pub lines_at-lines-requires-clause-rest : goal.lines_at-lines-requires-clause-rest
lines_at-lines-requires-clause-rest c =
    (small_parts _ c.args.x c.place_of-place.result c.place_of-place.ensures c.requires.fine).rest

pub over_width-requires-clause-fits : goal.over_width-requires-clause-fits
over_width-requires-clause-fits c =
    wide_small c.lines_at-lines.result.rising c.lines_at-lines.ensures.rising_small

pub over_width-requires-clause-some : goal.over_width-requires-clause-some
over_width-requires-clause-some c =
    let low = c.common_denominator-scale.ensures.limits.scale_low in
    subst (λ n. 0 < n)
    (sym (scale_itself c.common_denominator-scale.result c.args.shape.now.scale
    c.common_denominator-scale.ensures.value
    c.common_denominator-scale.ensures.limits.scale_high))
    (omega arith)

pub over_width-requires-clause-wide : goal.over_width-requires-clause-wide
over_width-requires-clause-wide c =
    let here = small_parts _ c.args.x c.place_of-place.result c.place_of-place.ensures
    c.requires.fine in
    let low = here.parts in
    subst (λ (z : ℤ). pos 0 <ℤ z) (sym (itself c.place_of-place.result.parts (omega arith)))
    here.some

pub over_width-requires-clause-narrow : goal.over_width-requires-clause-narrow
over_width-requires-clause-narrow c =
    let here = small_parts _ c.args.x c.place_of-place.result c.place_of-place.ensures
    c.requires.fine in
    let low = here.parts in
    itself_small c.place_of-place.result.parts (omega arith)

pub returns-then-lines : goal.returns-then-lines
returns-then-lines c =
    let f = c.args.shape.now in
    let p = c.place_of-place.result in
    let lines = c.lines_at-lines.result in
    let here = small_parts _ c.args.x p c.place_of-place.ensures c.requires.fine in
    let low = here.parts in
    let parts = itself p.parts (omega arith) in
    let scale = scale_itself c.common_denominator-scale.result f.scale
    c.common_denominator-scale.ensures.value
    c.common_denominator-scale.ensures.limits.scale_high in
    let rising = wide_itself lines.rising c.lines_at-lines.ensures.rising_small in
    let falling = wide_itself lines.falling c.lines_at-lines.ensures.falling_small in
    let order : lines.rising ≤ℤ lines.falling = omega (arith, ints, c.if-lines.true) in
    value_by_lines f c.args.x c.over_width.result c.order.result p
    c.greatest_steps-steps.result.rise
    c.greatest_steps-steps.result.fall lines.rising lines.falling _ _ _ c.order.ensures.limits
    c.order.ensures.value scale parts c.greatest_steps-steps.ensures c.place_of-place.ensures
    c.lines_at-lines.ensures.rising c.lines_at-lines.ensures.falling
    (rising ∙ sym (min_first lines.rising lines.falling order)) c.over_width.ensures

pub over_width-requires-2-clause-fits : goal.over_width-requires-2-clause-fits
over_width-requires-2-clause-fits c =
    wide_small c.lines_at-lines.result.falling c.lines_at-lines.ensures.falling_small

pub over_width-requires-2-clause-some : goal.over_width-requires-2-clause-some
over_width-requires-2-clause-some c =
    let low = c.common_denominator-scale.ensures.limits.scale_low in
    subst (λ n. 0 < n)
    (sym (scale_itself c.common_denominator-scale.result c.args.shape.now.scale
    c.common_denominator-scale.ensures.value
    c.common_denominator-scale.ensures.limits.scale_high))
    (omega arith)

pub over_width-requires-2-clause-wide : goal.over_width-requires-2-clause-wide
over_width-requires-2-clause-wide c =
    let here = small_parts _ c.args.x c.place_of-place.result c.place_of-place.ensures
    c.requires.fine in
    let low = here.parts in
    subst (λ (z : ℤ). pos 0 <ℤ z) (sym (itself c.place_of-place.result.parts (omega arith)))
    here.some

pub over_width-requires-2-clause-narrow : goal.over_width-requires-2-clause-narrow
over_width-requires-2-clause-narrow c =
    let here = small_parts _ c.args.x c.place_of-place.result c.place_of-place.ensures
    c.requires.fine in
    let low = here.parts in
    itself_small c.place_of-place.result.parts (omega arith)

pub returns : goal.returns
returns c =
    let f = c.args.shape.now in
    let p = c.place_of-place.result in
    let lines = c.lines_at-lines.result in
    let here = small_parts _ c.args.x p c.place_of-place.ensures c.requires.fine in
    let low = here.parts in
    let parts = itself p.parts (omega arith) in
    let scale = scale_itself c.common_denominator-scale.result f.scale
    c.common_denominator-scale.ensures.value
    c.common_denominator-scale.ensures.limits.scale_high in
    let rising = wide_itself lines.rising c.lines_at-lines.ensures.rising_small in
    let falling = wide_itself lines.falling c.lines_at-lines.ensures.falling_small in
    let order : lines.falling ≤ℤ lines.rising = omega (arith, ints, c.if-lines.false) in
    value_by_lines f c.args.x c.over_width-2.result c.order.result p
    c.greatest_steps-steps.result.rise
    c.greatest_steps-steps.result.fall lines.rising lines.falling _ _ _ c.order.ensures.limits
    c.order.ensures.value scale parts c.greatest_steps-steps.ensures c.place_of-place.ensures
    c.lines_at-lines.ensures.rising c.lines_at-lines.ensures.falling
    (falling ∙ sym (min_second lines.rising lines.falling order)) c.over_width-2.ensures
