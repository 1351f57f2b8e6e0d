use Rattle.std.proofs.Common.{◌≡◌, inl, inr, Option, pos, ◌<ℤ◌, ap, ◌∙◌, arith}
use Rattle.std.proofs.lemmas.Int.{ints}
use Rattle.std.proofs.lemmas.Result.{IfOk-weaker, on_ok_weaker}
use Rattle.gj_frac.specs.declared.Frac.{Frac}
use Rattle.gj_frac.specs.Fraction.{numerator}
use Rattle.gj_frac.proofs.Refusals.{on_err, on_err_along}
use Rattle.gj_fields.specs.Rational.{rational, ◌+ℚ◌, ◌-ℚ◌}
use Rattle.gj_problem.proofs.AddedSums.{sum_value, negation_value, whole_ratio}
use Rattle.gj_problem.specs.Moves.{HasLower, HasUpper}
use Rattle.gj_derivation.specs.Checks.{IsWideTimesBound, IsWideShift}
use Rattle.gj_derivation.proofs.CheckedMoves.{moved_none, shift_up, shift_down, sign_left, IsTimesLower, IsTimesUpper, IsShift}
use Rattle.gj_derivation.proofs.NarrowMoves.{narrow_shift}
use Rattle.gj_derivation.proofs.moves.shift.Goals as goal

pub returns-then-is_zero-clause-is : goal.returns-then-is_zero-clause-is
returns-then-is_zero-clause-is c =
    let change = c.in_ok-change.change in
    let is : rational change ≡ rational c.args.y -ℚ rational c.args.x =
    sum_value c.args.y c.neg.result change c.in_ok-change.ensures.value
    ∙ ap (λ w. rational c.args.y +ℚ w) (negation_value c.args.x c.neg.result c.neg.ensures) in
    moved_none c.args.column c.args.x c.args.y change c.ratio.result is
    (c.is_zero.ensures.0 c.if-is_zero.true)
    (whole_ratio c.ratio.result (pos 0) c.ratio.ensures)

pub returns-then-is_positive-clause-is : goal.returns-then-is_positive-clause-is
returns-then-is_positive-clause-is c =
    let change = c.in_ok-change.change in
    let is : rational change ≡ rational c.args.y -ℚ rational c.args.x =
    sum_value c.args.y c.neg.result change c.in_ok-change.ensures.value
    ∙ ap (λ w. rational c.args.y +ℚ w) (negation_value c.args.x c.neg.result c.neg.ensures) in
    IfOk-weaker c.times_lower.result (IsTimesLower c.args.column change)
    (IsShift c.args.column c.args.x c.args.y)
    (λ (made : Option Frac) (h : IsTimesLower c.args.column change made).
    shift_up c.args.column c.args.x c.args.y change made is
    (c.is_positive.ensures.0 c.if-is_positive.true) h)
    c.times_lower.ensures.is

pub returns-clause-is : goal.returns-clause-is
returns-clause-is c =
    let change = c.in_ok-change.change in
    let is : rational change ≡ rational c.args.y -ℚ rational c.args.x =
    sum_value c.args.y c.neg.result change c.in_ok-change.ensures.value
    ∙ ap (λ w. rational c.args.y +ℚ w) (negation_value c.args.x c.neg.result c.neg.ensures) in
    IfOk-weaker c.times_upper.result (IsTimesUpper c.args.column change)
    (IsShift c.args.column c.args.x c.args.y)
    (λ (made : Option Frac) (h : IsTimesUpper c.args.column change made).
    shift_down c.args.column c.args.x c.args.y change made is
    (sign_left (numerator change) c.is_zero.result c.is_positive.result c.is_zero.ensures
    c.is_positive.ensures c.if-is_zero.false
    c.if-is_positive.false) h)
    c.times_upper.ensures.is

pub returns-in_err-change-clause-wide : goal.returns-in_err-change-clause-wide
returns-in_err-change-clause-wide c =
    on_err c.from_residual.result (IsWideShift c.args.column c.args.x c.args.y)
    (inl (
      c.neg.result,
      negation_value c.args.x c.neg.result c.neg.ensures,
      c.in_err-change.ensures.wide,
    ))

pub returns-then-is_positive-clause-wide : goal.returns-then-is_positive-clause-wide
returns-then-is_positive-clause-wide c =
    let change = c.in_ok-change.change in
    let is : rational change ≡ rational c.args.y -ℚ rational c.args.x =
    sum_value c.args.y c.neg.result change c.in_ok-change.ensures.value
    ∙ ap (λ w. rational c.args.y +ℚ w) (negation_value c.args.x c.neg.result c.neg.ensures) in
    on_err_along c.times_lower.result (IsWideTimesBound (HasLower c.args.column) change)
    (IsWideShift c.args.column c.args.x c.args.y)
    (λ (wide : IsWideTimesBound (HasLower c.args.column) change).
    inr (change, is, inl (c.is_positive.ensures.0 c.if-is_positive.true, wide)))
    c.times_lower.ensures.wide

pub returns-clause-wide : goal.returns-clause-wide
returns-clause-wide c =
    let change = c.in_ok-change.change in
    let is : rational change ≡ rational c.args.y -ℚ rational c.args.x =
    sum_value c.args.y c.neg.result change c.in_ok-change.ensures.value
    ∙ ap (λ w. rational c.args.y +ℚ w) (negation_value c.args.x c.neg.result c.neg.ensures) in
    on_err_along c.times_upper.result (IsWideTimesBound (HasUpper c.args.column) change)
    (IsWideShift c.args.column c.args.x c.args.y)
    (λ (wide : IsWideTimesBound (HasUpper c.args.column) change).
    inr (
      change,
      is,
      inr (
        sign_left (numerator change) c.is_zero.result c.is_positive.result c.is_zero.ensures
            c.is_positive.ensures
            c.if-is_zero.false c.if-is_positive.false,
        wide,
      ),
    ))
    c.times_upper.ensures.wide

pub returns-then-is_zero-clause-narrow : goal.returns-then-is_zero-clause-narrow
returns-then-is_zero-clause-narrow c =
    let change = c.in_ok-change.change in
    let is : rational change ≡ rational c.args.y -ℚ rational c.args.x =
    sum_value c.args.y c.neg.result change c.in_ok-change.ensures.value
    ∙ ap (λ w. rational c.args.y +ℚ w) (negation_value c.args.x c.neg.result c.neg.ensures) in
    let none = c.is_zero.ensures.0 c.if-is_zero.true in
    narrow_shift c.args.column c.args.x c.args.y c.neg.result change
    (negation_value c.args.x c.neg.result c.neg.ensures) c.in_ok-change.ensures.fits is
    (λ above wide. omega (arith, ints)) (λ below wide. omega (arith, ints))

pub returns-then-is_positive-clause-narrow : goal.returns-then-is_positive-clause-narrow
returns-then-is_positive-clause-narrow c =
    let change = c.in_ok-change.change in
    let is : rational change ≡ rational c.args.y -ℚ rational c.args.x =
    sum_value c.args.y c.neg.result change c.in_ok-change.ensures.value
    ∙ ap (λ w. rational c.args.y +ℚ w) (negation_value c.args.x c.neg.result c.neg.ensures) in
    let some = c.is_positive.ensures.0 c.if-is_positive.true in
    on_ok_weaker c.times_lower.result
    (λ (narrow : IsWideTimesBound (HasLower c.args.column) change → ⊥).
    narrow_shift c.args.column c.args.x c.args.y c.neg.result change
    (negation_value c.args.x c.neg.result c.neg.ensures) c.in_ok-change.ensures.fits is
    (λ above. narrow) (λ below wide. omega (arith, ints)))
    c.times_lower.ensures.narrow

pub returns-clause-narrow : goal.returns-clause-narrow
returns-clause-narrow c =
    let change = c.in_ok-change.change in
    let is : rational change ≡ rational c.args.y -ℚ rational c.args.x =
    sum_value c.args.y c.neg.result change c.in_ok-change.ensures.value
    ∙ ap (λ w. rational c.args.y +ℚ w) (negation_value c.args.x c.neg.result c.neg.ensures) in
    let some : numerator change <ℤ pos 0 =
    sign_left (numerator change) c.is_zero.result c.is_positive.result c.is_zero.ensures
    c.is_positive.ensures c.if-is_zero.false c.if-is_positive.false in
    on_ok_weaker c.times_upper.result
    (λ (narrow : IsWideTimesBound (HasUpper c.args.column) change → ⊥).
    narrow_shift c.args.column c.args.x c.args.y c.neg.result change
    (negation_value c.args.x c.neg.result c.neg.ensures) c.in_ok-change.ensures.fits is
    (λ above wide. omega (arith, ints)) (λ below. narrow))
    c.times_upper.ensures.narrow
