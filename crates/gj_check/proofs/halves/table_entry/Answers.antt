use Rattle.std.proofs.Common.{◌+◌, ◌-◌, ◌/◌, ◌%◌, ◌<◌, length, ap, refl, sym, rules, ◌∙◌, arith}
use Rattle.std.proofs.Math.Nat.{div-lt_iff_lt-mul}
use Rattle.std.proofs.lemmas.Int.{ints}
use Rattle.gj_shape.proofs.NumeratorReadings.{entry_read, rest_read, value_below}
use Rattle.gj_check.proofs.HalvesTests.{table_by_values, sum_of_parts}
use Rattle.gj_check.proofs.halves.table_entry.Goals as goal

pub overflow_add-result : goal.overflow_add-result
overflow_add-result c =
    let first = c.times.ensures.fits in
    let second = c.times-2.ensures.fits in
    omega (arith, ints)

pub returns : goal.returns
returns c =
    let f = c.args.shape.now in
    let m = c.args.times_finer in
    let i = c.args.index in
    let l = c.value_numerators-values.ensures.limits in
    let value = c.value_numerators-values.ensures.value in
    let len = l.value_length in
    let low : i / m < f.order = (div-lt_iff_lt-mul c.requires.some).1 c.requires.within in
    let here = c.from.ensures ∙ entry_read _ f.value (i / m) value (omega arith) (search rules) in
    let next = c.from-2.ensures
    ∙ rest_read _ f.value (i / m + 1) _ _ value (ap length (sym value)) refl (search rules) in
    sum_of_parts _ _ _ _ _ _ (m - i % m) (i % m) (value_below f (i / m) l)
    (value_below f (i / m + 1) l) here next
    c.times.ensures.value c.times-2.ensures.value c.times.ensures.fits c.times-2.ensures.fits
    ∙ table_by_values f m i c.requires.continuous
