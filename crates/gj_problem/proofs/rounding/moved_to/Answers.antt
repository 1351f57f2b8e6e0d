use Rattle.std.proofs.Common.{inl, inr, ap, ◌∙◌}
use Rattle.gj_frac.proofs.Refusals.{on_err}
use Rattle.gj_problem.specs.RoundedCuts.{IsWideChange}
use Rattle.gj_fields.specs.Rational.{rational, ◌+ℚ◌, ◌*ℚ◌}
use Rattle.gj_problem.proofs.AddedSums.{sum_value, product_value, negation_value}
use Rattle.gj_problem.proofs.NarrowRoundings.{narrow_change}
use Rattle.gj_problem.proofs.rounding.moved_to.Goals as goal

pub returns-clause-shift : goal.returns-clause-shift
returns-clause-shift c =
    let change = c.in_ok-change.change in
    product_value change c.args.bound c.in_ok-shift.shift c.in_ok-shift.ensures.value
    ∙ ap (λ w. w *ℚ rational c.args.bound)
    (sum_value c.args.value c.neg.result change c.in_ok-change.ensures.value
    ∙ ap (λ w. rational c.args.value +ℚ w) (negation_value c.args.x c.neg.result c.neg.ensures))

pub returns-in_err-change-clause-wide : goal.returns-in_err-change-clause-wide
returns-in_err-change-clause-wide c =
    on_err c.from_residual.result (IsWideChange c.args.x c.args.value c.args.bound) (
      c.neg.result,
      negation_value c.args.x c.neg.result c.neg.ensures,
      inl
          c.in_err-change.ensures.wide,
    )

pub returns-in_err-shift-clause-wide : goal.returns-in_err-shift-clause-wide
returns-in_err-shift-clause-wide c =
    let m_is = negation_value c.args.x c.neg.result c.neg.ensures in
    on_err c.from_residual-in_err-shift.result (IsWideChange c.args.x c.args.value c.args.bound) (
      c.neg.result,
      m_is,
      inr (
        c.in_ok-change.change,
        sum_value c.args.value c.neg.result c.in_ok-change.change c.in_ok-change.ensures.value
            ∙ ap (λ w. rational c.args.value +ℚ w) m_is,
        c.in_err-shift.ensures.wide,
      ),
    )

pub returns-clause-narrow : goal.returns-clause-narrow
returns-clause-narrow c =
    let change = c.in_ok-change.change in
    let m_is = negation_value c.args.x c.neg.result c.neg.ensures in
    narrow_change c.args.x c.args.value c.args.bound c.neg.result change m_is
    c.in_ok-change.ensures.fits
    (sum_value c.args.value c.neg.result change c.in_ok-change.ensures.value
    ∙ ap (λ w. rational c.args.value +ℚ w) m_is) c.in_ok-shift.ensures.fits
