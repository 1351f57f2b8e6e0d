use Rattle.std.proofs.Common.{sym, ap, subst, subst₂, ◌∙◌}
use Rattle.gj_frac.specs.declared.Frac.{Frac}
use Rattle.gj_frac.proofs.Refusals.{on_err}
use Rattle.gj_fields.specs.Rational.{rational, neg_ℚ}
use Rattle.gj_problem.specs.Moves.{IsBelowOnGrid}
use Rattle.gj_problem.specs.RoundedCuts.{IsWideTimes}
use Rattle.gj_problem.proofs.AddedSums.{negation_value}
use Rattle.gj_problem.proofs.MovedEntries.{double_neg}
use Rattle.gj_problem.proofs.OneRow.{rational_injective}
use Rattle.gj_relaxed.specs.RelaxedProblems.{IsWideLifted}
use Rattle.gj_relaxed.proofs.columns.above_on_grid.Goals as goal

pub returns-in_err-below_on_grid-clause-wide : goal.returns-in_err-below_on_grid-clause-wide
returns-in_err-below_on_grid-clause-wide c =
    on_err c.from_residual.result (IsWideLifted c.args.grid c.args.x) (
      c.neg.result,
      negation_value c.args.x c.neg.result c.neg.ensures,
      c.in_err-below_on_grid.ensures.wide,
    )

pub returns-clause-above : goal.returns-clause-above
returns-clause-above c =
    let z = c.in_ok-below_on_grid.field-0 in
    let y = c.neg-2.result in
    subst₂ (IsBelowOnGrid c.args.grid) (negation_value c.args.x c.neg.result c.neg.ensures)
    (sym (ap neg_ℚ (negation_value z y c.neg-2.ensures) ∙ double_neg (rational z)))
    c.in_ok-below_on_grid.ensures.value

pub returns-clause-narrow : goal.returns-clause-narrow
returns-clause-narrow c (k, k_is, wide) =
    let m = c.neg.result in
    let same = rational_injective k m (k_is ∙ sym (negation_value c.args.x m c.neg.ensures)) in
    c.in_ok-below_on_grid.ensures.narrow (subst (λ (x : Frac). IsWideTimes c.args.grid x) same wide)
