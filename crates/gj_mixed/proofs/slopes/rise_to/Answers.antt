use Rattle.std.proofs.Common.{rules, ◌-ℤ◌, ◌≤ℤ◌, pos, ℤ, ap₂, subst, sym, arith}
use Rattle.std.proofs.lemmas.Int.{ints}
use Rattle.gj_shape.specs.FunctionData.{at}
use Rattle.gj_rule.proofs.ClosedForm.{read, reads_as}
use Rattle.gj_theory.proofs.MinimalEntries.{value_within, value_at_zero}
use Rattle.gj_mixed.proofs.slopes.rise_to.Goals as goal

pub overflow_sub-result : goal.overflow_sub-result
overflow_sub-result c =
    let f = c.args.shape.now in
    let high = c.requires.limits.scale_high in
    let (a_low, a_high) = value_within f c.args.i c.requires.limits c.requires.minimal in
    let (b_low, b_high) = value_within f 0 c.requires.limits c.requires.minimal in
    let first = reads_as c.value_num.result (at f.value c.args.i) c.value_num.ensures
    (omega (arith, ints)) in
    let second = reads_as c.value_num-2.result (at f.value 0) c.value_num-2.ensures
    (omega (arith, ints)) in
    search rules

-- the difference as it is computed
rise_is : goal.returns-clause-value
rise_is c =
    let f = c.args.shape.now in
    let high = c.requires.limits.scale_high in
    let (a_low, a_high) = value_within f c.args.i c.requires.limits c.requires.minimal in
    let (b_low, b_high) = value_within f 0 c.requires.limits c.requires.minimal in
    let first = reads_as c.value_num.result (at f.value c.args.i) c.value_num.ensures
    (omega (arith, ints)) in
    let second = reads_as c.value_num-2.result (at f.value 0) c.value_num-2.ensures
    (omega (arith, ints)) in
    reads_as (read c.value_num.result -ℤ read c.value_num-2.result)
    (at f.value c.args.i -ℤ at f.value 0)
    (ap₂ (λ x y. x -ℤ y) first second) (omega (arith, ints))

pub returns-clause-value : goal.returns-clause-value
returns-clause-value c = rise_is c

pub returns-clause-low : goal.returns-clause-low
returns-clause-low c =
    let f = c.args.shape.now in
    let none = value_at_zero f c.requires.minimal in
    let (low, high) = value_within f c.args.i c.requires.limits c.requires.minimal in
    subst (λ (z : ℤ). pos 0 ≤ℤ z) (sym (rise_is c)) (omega (arith, ints))

pub returns-clause-high : goal.returns-clause-high
returns-clause-high c =
    let f = c.args.shape.now in
    let none = value_at_zero f c.requires.minimal in
    let (low, high) = value_within f c.args.i c.requires.limits c.requires.minimal in
    subst (λ (z : ℤ). z ≤ℤ pos f.scale) (sym (rise_is c)) (omega (arith, ints))
