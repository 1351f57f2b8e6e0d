use Rattle.std.proofs.Common.{◌<◌, ◌-◌, ◌%◌, pos, ◌+ℤ◌, ◌*ℤ◌, sym, ap₂, ◌∙◌, arith}
use Rattle.gj_perturb.proofs.ContinuousEntries.{table_continuous, sum_fits, sum_read}
use Rattle.gj_perturb.proofs.grid.table_entry.Goals as goal

pub overflow_add-result : goal.overflow_add-result
overflow_add-result c =
    let m = c.args.times in
    let r = c.args.i % c.args.times in
    let low = c.requires.low in
    let high = c.requires.high in
    let rest : c.args.i % c.args.times < c.args.times = omega arith in
    sum_fits (m - r) r c.from.result c.from-2.result c.value_numerator.result
    c.value_numerator-2.result c.from.ensures c.from-2.ensures
    (omega arith) (omega arith) c.value_numerator.ensures.small c.value_numerator-2.ensures.small

pub returns : goal.returns
returns c =
    let f = c.args.shape.now in
    let m = c.args.times in
    let i = c.args.i in
    let r = c.args.i % c.args.times in
    let low = c.requires.low in
    let high = c.requires.high in
    let rest : c.args.i % c.args.times < c.args.times = omega arith in
    sum_read (m - r) r c.from.result c.from-2.result c.value_numerator.result
    c.value_numerator-2.result c.from.ensures c.from-2.ensures
    (omega arith) (omega arith) c.value_numerator.ensures.small c.value_numerator-2.ensures.small
    ∙ ap₂ (λ x y. pos (m - r) *ℤ x +ℤ pos r *ℤ y) c.value_numerator.ensures.value
    c.value_numerator-2.ensures.value
    ∙ sym (table_continuous f m i c.requires.continuous)
