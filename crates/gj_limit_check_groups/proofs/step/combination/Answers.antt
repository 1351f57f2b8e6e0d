use Rattle.std.proofs.Common.{rules}
use Rattle.std.proofs.lemmas.Int.{to_z-of_z}
use Rattle.std.proofs.lemmas.Result.{err_from_is_err_and}
use mir.Syntax.{w128}
use Rattle.gj_frac.proofs.Refusals.{on_err}
use Rattle.gj_theory.specs.Fitting.{FitsCombined}
use Rattle.gj_theory.proofs.CombinedRows.{IsCombination, combination_of}
use Rattle.gj_limit_check_groups.proofs.step.combination.Goals as goal

-- ---- a product that passes 2^127 - 1

pub returns-in_err-first-clause-value : goal.returns-in_err-first-clause-value
returns-in_err-first-clause-value c =
    rw (err_from_is_err_and c.from_residual.result c.from_residual.ensures.1).1 tt

pub returns-in_err-first-clause-fits : goal.returns-in_err-first-clause-fits
returns-in_err-first-clause-fits c =
    rw (err_from_is_err_and c.from_residual.result c.from_residual.ensures.1).1 tt

pub returns-in_err-first-clause-wide : goal.returns-in_err-first-clause-wide
returns-in_err-first-clause-wide c =
    let u = to_z-of_z w128 c.args.u c.ranges.u in
    let x = to_z-of_z w128 c.args.x c.ranges.x in
    let wide = simp (u, x) at c.in_err-first.ensures in
    on_err c.from_residual.result (FitsCombined c.args.u c.args.x c.args.w c.args.e → ⊥)
    (λ all. wide all.first)

pub returns-in_err-second-clause-value : goal.returns-in_err-second-clause-value
returns-in_err-second-clause-value c =
    rw (err_from_is_err_and c.from_residual-in_err-second.result
    c.from_residual-in_err-second.ensures.1).1 tt

pub returns-in_err-second-clause-fits : goal.returns-in_err-second-clause-fits
returns-in_err-second-clause-fits c =
    rw (err_from_is_err_and c.from_residual-in_err-second.result
    c.from_residual-in_err-second.ensures.1).1 tt

pub returns-in_err-second-clause-wide : goal.returns-in_err-second-clause-wide
returns-in_err-second-clause-wide c =
    let w = to_z-of_z w128 c.args.w c.ranges.w in
    let e = to_z-of_z w128 c.args.e c.ranges.e in
    let wide = simp (w, e) at c.in_err-second.ensures in
    on_err c.from_residual-in_err-second.result (FitsCombined c.args.u c.args.x c.args.w c.args.e →
    ⊥) (λ all. wide all.second)

-- ---- the difference of two products

combined : (c : goal.After-checked_difference) →
    IsCombination c.args.u c.args.x c.args.w c.args.e c.checked_difference.result
combined c =
    let u = to_z-of_z w128 c.args.u c.ranges.u in
    let x = to_z-of_z w128 c.args.x c.ranges.x in
    let w = to_z-of_z w128 c.args.w c.ranges.w in
    let e = to_z-of_z w128 c.args.e c.ranges.e in
    let first = to_z-of_z w128 c.in_ok-first.first (search rules) in
    let second = to_z-of_z w128 c.in_ok-second.second (search rules) in
    combination_of c.args.u c.args.x c.args.w c.args.e c.in_ok-first.first c.in_ok-second.second
    c.checked_difference.result
    (simp (u, x) at c.in_ok-first.ensures.0) (simp (u, x) at c.in_ok-first.ensures.1)
    (simp (w, e) at c.in_ok-second.ensures.0) (simp (w, e) at c.in_ok-second.ensures.1)
    (simp (first, second) at c.checked_difference.ensures)

pub returns-clause-value : goal.returns-clause-value
returns-clause-value c = (combined c).value

pub returns-clause-fits : goal.returns-clause-fits
returns-clause-fits c = (combined c).fits

pub returns-clause-wide : goal.returns-clause-wide
returns-clause-wide c = (combined c).wide
