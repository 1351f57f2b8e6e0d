use Rattle.std.proofs.Common.{◌≡◌, ℤ, pos, to_z, of_z, inr, sym, ap, ◌∙◌}
use Rattle.std.proofs.lemmas.Result.{IfOk-weaker, on_err_weaker, on_ok_weaker}
use Rattle.gj_frac.proofs.Reduced.{read_part}
use Rattle.gj_problem.proofs.Multiples.{zero_added, zero_narrow}
use Rattle.gj_frac.specs.Fraction.{SameValue, fraction_of, sum_of}
use Rattle.gj_fields.specs.Rational.{rational, ◌+ℚ◌, ◌*ℚ◌}
use Rattle.gj_problem.proofs.AddedSums.{multiple_value}
use Rattle.gj_problem.proofs.NarrowSums.{narrow_at}
use Rattle.gj_problem.proofs.sums.with_multiple.Goals as goal
use mir.Syntax.{w128}

pub returns-then-num-eq0-clause-value : goal.returns-then-num-eq0-clause-value
returns-then-num-eq0-clause-value c =
    let v = c.args.value in
    let none : v.num ≡ pos 0 =
    sym (read_part v.num v.lowest.num_fits)
    ∙ ap (λ (z : ℤ). to_z w128 (of_z w128 z)) (sym c.num.ensures)
    ∙ ap (to_z w128) c.if-num-eq0.true in
    zero_added c.args.x c.args.factor v none

pub returns-then-num-eq0-clause-narrow : goal.returns-then-num-eq0-clause-narrow
returns-then-num-eq0-clause-narrow c =
    let v = c.args.value in
    let none : v.num ≡ pos 0 =
    sym (read_part v.num v.lowest.num_fits)
    ∙ ap (λ (z : ℤ). to_z w128 (of_z w128 z)) (sym c.num.ensures)
    ∙ ap (to_z w128) c.if-num-eq0.true in
    zero_narrow c.args.x c.args.factor v none

pub returns-clause-value : goal.returns-clause-value
returns-clause-value c =
    let product = c.in_ok-checked_mul.field-0 in
    IfOk-weaker c.checked_add.result
    (λ z. SameValue (fraction_of z) (sum_of (fraction_of c.args.x) (fraction_of product)))
    (λ z. rational z ≡ rational c.args.x +ℚ rational c.args.factor *ℚ rational c.args.value)
    (λ z is. multiple_value c.args.x c.args.factor c.args.value product z
    c.in_ok-checked_mul.ensures.value is) c.checked_add.ensures.value

pub returns-clause-wide : goal.returns-clause-wide
returns-clause-wide c =
    on_err_weaker c.checked_add.result
    (λ wide. inr (c.in_ok-checked_mul.field-0, c.in_ok-checked_mul.ensures.value, wide))
    c.checked_add.ensures.wide

pub returns-clause-narrow : goal.returns-clause-narrow
returns-clause-narrow c =
    on_ok_weaker c.checked_add.result
    (narrow_at c.args.x c.args.factor c.args.value c.in_ok-checked_mul.field-0
    c.in_ok-checked_mul.ensures.value) c.checked_add.ensures.fits
