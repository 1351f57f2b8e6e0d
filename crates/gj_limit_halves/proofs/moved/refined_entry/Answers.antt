use Rattle.std.proofs.Common.{◌-◌, ◌/◌, ◌%◌, ◌<◌, pos, get_or, ◌+ℤ◌, ◌*ℤ◌, sym, ap₂, ◌∙◌, arith}
use Rattle.gj_perturb.proofs.ContinuousEntries.{product_read, sum_fits, sum_read}
use Rattle.gj_limit_halves.proofs.RefinedEntries.{start_below, refined_at_multiple, refined_inside}
use Rattle.gj_limit_halves.proofs.moved.refined_entry.Goals as goal

pub returns-then-rest-eq0 : goal.returns-then-rest-eq0
returns-then-rest-eq0 c =
    let f = c.args.shape.now in
    let xs = c.args.entries.now in
    let m = c.args.times in
    let i = c.args.i in
    let start = start_below f.order m i c.requires.low c.requires.within in
    let len = c.requires.order in
    let few = c.requires.high in
    product_read m c.from.result (get_or xs (i / m) (pos 0)) c.from.ensures few
    (c.requires.entries (i / m) (pos 0) (omega (arith, start, len)))
    ∙ sym (refined_at_multiple f xs m i len c.requires.low c.requires.within c.if-rest-eq0.true)

pub overflow_add-result : goal.overflow_add-result
overflow_add-result c =
    let m = c.args.times in
    let r = c.args.i % c.args.times in
    let low = c.requires.low in
    let high = c.requires.high in
    let rest : c.args.i % c.args.times < c.args.times = omega arith in
    sum_fits (m - r) r c.from-2.result c.from-3.result c.right_numerator.result
    c.left_numerator.result
    c.from-2.ensures c.from-3.ensures (omega arith) (omega arith) c.right_numerator.ensures.small
    c.left_numerator.ensures.small

pub returns : goal.returns
returns c =
    let f = c.args.shape.now in
    let xs = c.args.entries.now in
    let m = c.args.times in
    let i = c.args.i in
    let r = c.args.i % c.args.times in
    let low = c.requires.low in
    let high = c.requires.high in
    let rest : c.args.i % c.args.times < c.args.times = omega arith in
    sum_read (m - r) r c.from-2.result c.from-3.result c.right_numerator.result
    c.left_numerator.result
    c.from-2.ensures c.from-3.ensures (omega arith) (omega arith) c.right_numerator.ensures.small
    c.left_numerator.ensures.small
    ∙ ap₂ (λ x y. pos (m - r) *ℤ x +ℤ pos r *ℤ y) c.right_numerator.ensures.value
    c.left_numerator.ensures.value
    ∙ sym (refined_inside f xs m i c.if-rest-eq0.false)
