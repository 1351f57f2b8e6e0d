use Rattle.std.proofs.Common.{◌≡◌, ◌↔◌, ◌*ℤ◌, ◌*◌, pos, IsTrue, subst, arith}
use Rattle.std.proofs.lemmas.Int.{ints}
use Rattle.gj_shape.specs.Table.{table}
use Rattle.gj_check_minimal.proofs.TestsInTurn.{in_other_words}
use Rattle.gj_check.proofs.HalvesTests.{half_read, sum_of_halves, average_by}
use Rattle.gj_check.proofs.halves.meets_average.Goals as goal

pub overflow_add-sum : goal.overflow_add-sum
overflow_add-sum c =
    let h = c.args.halves.now in
    let b = c.requires.halves in
    let m = c.requires.range in
    let first = half_read h h.first _ c.args.index c.as_slice.ensures b.first_length b.first_fit
    c.requires.within in
    let second = half_read h h.second _ c.args.index c.as_slice-2.ensures b.second_length
    b.second_fit c.requires.within in
    let high = b.scale_high in
    let first_low = m.first_low in
    let first_high = m.first_high in
    let second_low = m.second_low in
    let second_high = m.second_high in
    omega (arith, ints)

pub returns : goal.returns
returns c =
    let f = c.args.shape.now in
    let h = c.args.halves.now in
    let r = c.args.refinement in
    let b = c.requires.halves in
    let first = half_read h h.first _ c.args.index c.as_slice.ensures b.first_length b.first_fit
    c.requires.within in
    let second = half_read h h.second _ c.args.index c.as_slice-2.ensures b.second_length
    b.second_fit c.requires.within in
    let sum = sum_of_halves h c.args.index _ _ b c.requires.range first second in
    in_other_words _ _ _
    (subst (λ z. IsTrue c.is_twice_the_value.result
    ↔ (z ≡ pos (2 * r.factor) *ℤ table f r.times c.args.index)) sum
    c.is_twice_the_value.ensures)
    (average_by f h r c.args.index c.requires.limits b c.requires.refinement)
