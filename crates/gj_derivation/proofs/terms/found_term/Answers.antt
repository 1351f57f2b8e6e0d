use Rattle.std.proofs.Common.{◌≡◌, ℕ, inr, Option, Some, pos, sym, ap, subst, subst₂, ◌∙◌}
use Rattle.std.proofs.lemmas.Result.{IfOk-weaker, on_ok_weaker}
use Rattle.gj_frac.specs.declared.Frac.{Frac}
use Rattle.gj_frac.proofs.Refusals.{on_err_along}
use Rattle.gj_fields.specs.Rational.{Rational, whole, rational, ◌*ℚ◌}
use Rattle.gj_problem.proofs.AddedSums.{product_value, zero_frac}
use Rattle.gj_fields.proofs.RationalLaws.{mul_zero_q}
use Rattle.gj_safe_cut.proofs.PointCuts.{is_true}
use Rattle.gj_derivation.specs.Drafts.{IsFoundFor, IsFoundOrNone, IsWideGrid, IsWideFoundAt}
use Rattle.gj_derivation.proofs.FoundTerms.{found_zero}
use Rattle.gj_derivation.proofs.NarrowTerms.{narrow_found_zero, narrow_found}
use Rattle.gj_derivation.proofs.terms.found_term.Goals as goal

pub returns-then-is_zero-clause-is : goal.returns-then-is_zero-clause-is
returns-then-is_zero-clause-is c =
    let none : rational c.args.coefficient ≡ whole (pos 0) =
    zero_frac c.args.coefficient (c.is_zero.ensures.0
    (is_true c.is_zero.result c.if-is_zero.true)) in
    found_zero c.args.grid c.args.column (rational c.args.factor *ℚ rational c.args.coefficient)
    (rational c.args.coefficient)
    (ap (λ w. rational c.args.factor *ℚ w) none ∙ mul_zero_q (rational c.args.factor)) none

pub returns-in-None-clause-is : goal.returns-in-None-clause-is
returns-in-None-clause-is c =
    let is = product_value c.args.factor c.args.coefficient c.in_ok-x.x c.in_ok-x.ensures.value in
    subst (λ (g : Option ℕ). IsFoundFor g c.args.column
    (rational c.args.factor *ℚ rational c.args.coefficient) (rational c.in_ok-x.x))
    (sym c.in-None.is) is

pub returns-in-Some-clause-is : goal.returns-in-Some-clause-is
returns-in-Some-clause-is c =
    let is = product_value c.args.factor c.args.coefficient c.in_ok-x.x c.in_ok-x.ensures.value in
    IfOk-weaker c.on_grid.result (IsFoundOrNone (Some c.in-Some.n) c.args.column
    (rational c.in_ok-x.x))
    (IsFoundOrNone c.args.grid c.args.column (rational c.args.factor *ℚ rational
    c.args.coefficient))
    (λ (made : Option Frac) (h : IsFoundOrNone (Some c.in-Some.n) c.args.column
    (rational c.in_ok-x.x) made).
    subst₂ (λ (g : Option ℕ) (x : Rational). IsFoundOrNone g c.args.column x made)
    (sym c.in-Some.is) is h)
    c.on_grid.ensures.is

pub returns-in-Some-clause-wide : goal.returns-in-Some-clause-wide
returns-in-Some-clause-wide c =
    let is = product_value c.args.factor c.args.coefficient c.in_ok-x.x c.in_ok-x.ensures.value in
    on_err_along c.on_grid.result (IsWideGrid (Some c.in-Some.n) c.args.column.lower
    c.args.column.upper c.in_ok-x.x)
    (IsWideFoundAt c.args.grid c.args.column c.args.factor c.args.coefficient)
    (λ (wide : IsWideGrid (Some c.in-Some.n) c.args.column.lower c.args.column.upper c.in_ok-x.x).
    inr (
      c.in_ok-x.x,
      is,
      subst (λ (g : Option ℕ). IsWideGrid g c.args.column.lower c.args.column.upper c.in_ok-x.x)
          (sym c.in-Some.is) wide,
    ))
    c.on_grid.ensures.wide

pub returns-then-is_zero-clause-narrow : goal.returns-then-is_zero-clause-narrow
returns-then-is_zero-clause-narrow c =
    narrow_found_zero c.args.grid c.args.column c.args.factor c.args.coefficient
    (c.is_zero.ensures.0 (is_true c.is_zero.result c.if-is_zero.true))

pub returns-in-Some-clause-narrow : goal.returns-in-Some-clause-narrow
returns-in-Some-clause-narrow c =
    on_ok_weaker c.on_grid.result
    (narrow_found c.args.grid c.in-Some.n c.args.column c.args.factor c.args.coefficient c.in_ok-x.x
    c.in-Some.is c.in_ok-x.ensures.fits
    (product_value c.args.factor c.args.coefficient c.in_ok-x.x c.in_ok-x.ensures.value))
    c.on_grid.ensures.narrow
