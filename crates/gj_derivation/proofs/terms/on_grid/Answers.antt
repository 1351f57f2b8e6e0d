use Rattle.std.proofs.Common.{ℕ, Option, Some, sym, subst, ◌∙◌}
use Rattle.gj_frac.specs.declared.Frac.{Frac}
use Rattle.gj_frac.specs.TotalOrder.{parts_Decides}
use Rattle.gj_frac.proofs.Refusals.{on_err}
use Rattle.gj_fields.specs.Rational.{rational}
use Rattle.gj_problem.specs.Moves.{IsBelowOnGrid}
use Rattle.gj_problem.specs.RoundedCuts.{IsWideTimes}
use Rattle.gj_problem.proofs.AddedSums.{negation_value}
use Rattle.gj_problem.proofs.OneRow.{rational_injective}
use Rattle.gj_derivation.specs.Drafts.{IsWideGrid}
use Rattle.gj_derivation.proofs.FoundTerms.{found_above, found_there, not_found}
use Rattle.gj_derivation.proofs.NarrowTerms.{narrow_above, narrow_below}
use Rattle.gj_derivation.proofs.terms.on_grid.Goals as goal

pub returns-in_err-below_on_grid-in-Some-default-clause-wide :
    goal.returns-in_err-below_on_grid-in-Some-default-clause-wide
returns-in_err-below_on_grid-in-Some-default-clause-wide c =
    on_err c.from_residual.result (IsWideGrid (Some c.args.grid) c.args.column.lower
    c.args.column.upper c.args.x)
    (subst (λ (o : Option Frac). IsWideGrid (Some c.args.grid) o c.args.column.upper c.args.x)
    (sym c.in-Some-default.is-0) (
      c.neg.result,
      negation_value c.args.x c.neg.result c.neg.ensures,
      subst (λ (n : ℕ). IsWideTimes n c.neg.result) c.from.ensures
          c.in_err-below_on_grid-in-Some-default.ensures.wide,
    ))

pub returns-in_err-below_on_grid-in-None-Some-clause-wide :
    goal.returns-in_err-below_on_grid-in-None-Some-clause-wide
returns-in_err-below_on_grid-in-None-Some-clause-wide c =
    on_err c.from_residual-in_err-below_on_grid-in-None-Some.result
    (IsWideGrid (Some c.args.grid) c.args.column.lower c.args.column.upper c.args.x)
    (subst (λ (o : Option Frac). IsWideGrid (Some c.args.grid) o c.args.column.upper c.args.x)
    (sym c.in-None-Some.is-0)
    (subst (λ (n : ℕ). IsWideTimes n c.args.x) c.from-in-None-Some.ensures
    c.in_err-below_on_grid-in-None-Some.ensures.wide))

pub returns-in_err-y-in-None-None-clause-wide : goal.returns-in_err-y-in-None-None-clause-wide
returns-in_err-y-in-None-None-clause-wide c =
    on_err c.from_residual-in_err-y-in-None-None.result
    (IsWideGrid (Some c.args.grid) c.args.column.lower c.args.column.upper c.args.x)
    (subst (λ (o : Option Frac). IsWideGrid (Some c.args.grid) o c.args.column.upper c.args.x)
    (sym c.in-None-None.is-0)
    (subst (λ (n : ℕ). IsWideTimes n c.args.x) c.from-in-None-None.ensures
    c.in_err-y-in-None-None.ensures.wide))

pub returns-in_ok-below_on_grid-in-Some-default-clause-is :
    goal.returns-in_ok-below_on_grid-in-Some-default-clause-is
returns-in_ok-below_on_grid-in-Some-default-clause-is c =
    let z = c.in_ok-below_on_grid-in-Some-default.field-0 in
    found_above c.args.grid c.args.column c.in-Some-default.field-0-0 c.args.x c.neg.result z
    c.neg-in-Some-default.result c.in-Some-default.is-0
    (negation_value c.args.x c.neg.result c.neg.ensures)
    (subst (λ (n : ℕ). IsBelowOnGrid n (rational c.neg.result) (rational z)) c.from.ensures
    c.in_ok-below_on_grid-in-Some-default.ensures.value)
    (negation_value z c.neg-in-Some-default.result c.neg-in-Some-default.ensures)

pub returns-then-eq-clause-is : goal.returns-then-eq-clause-is
returns-then-eq-clause-is c =
    let y = c.in_ok-y-in-None-None.y in
    found_there c.args.grid c.args.column c.args.x y c.in-None-None.is-0 c.in-None-None.is-1
    (subst (λ (n : ℕ). IsBelowOnGrid n (rational c.args.x) (rational y)) c.from-in-None-None.ensures
    c.in_ok-y-in-None-None.ensures.value)
    ((parts_Decides y c.args.x).0 (sym c.eq.ensures ∙ c.if-eq.true))

pub returns-else-eq-clause-is : goal.returns-else-eq-clause-is
returns-else-eq-clause-is c =
    let y = c.in_ok-y-in-None-None.y in
    not_found c.args.grid c.args.column c.args.x y c.in-None-None.is-0 c.in-None-None.is-1
    (subst (λ (n : ℕ). IsBelowOnGrid n (rational c.args.x) (rational y)) c.from-in-None-None.ensures
    c.in_ok-y-in-None-None.ensures.value)
    (λ same. let t = (parts_Decides y c.args.x).1 (rational_injective y c.args.x same) in let e =
    c.eq.ensures in absurd (cc))

pub returns-in_ok-below_on_grid-in-Some-default-clause-narrow :
    goal.returns-in_ok-below_on_grid-in-Some-default-clause-narrow
returns-in_ok-below_on_grid-in-Some-default-clause-narrow c =
    narrow_above c.args.grid c.args.column.lower c.args.column.upper c.in-Some-default.field-0-0
    c.args.x c.neg.result c.in-Some-default.is-0
    (negation_value c.args.x c.neg.result c.neg.ensures)
    (subst (λ (n : ℕ). IsWideTimes n c.neg.result → ⊥) c.from.ensures
    c.in_ok-below_on_grid-in-Some-default.ensures.narrow)

pub returns-in_ok-below_on_grid-in-None-Some-clause-narrow :
    goal.returns-in_ok-below_on_grid-in-None-Some-clause-narrow
returns-in_ok-below_on_grid-in-None-Some-clause-narrow c =
    narrow_below c.args.grid c.args.column.lower c.args.column.upper c.args.x c.in-None-Some.is-0
    (subst (λ (n : ℕ). IsWideTimes n c.args.x → ⊥) c.from-in-None-Some.ensures
    c.in_ok-below_on_grid-in-None-Some.ensures.narrow)

pub returns-then-eq-clause-narrow : goal.returns-then-eq-clause-narrow
returns-then-eq-clause-narrow c =
    narrow_below c.args.grid c.args.column.lower c.args.column.upper c.args.x c.in-None-None.is-0
    (subst (λ (n : ℕ). IsWideTimes n c.args.x → ⊥) c.from-in-None-None.ensures
    c.in_ok-y-in-None-None.ensures.narrow)

pub returns-else-eq-clause-narrow : goal.returns-else-eq-clause-narrow
returns-else-eq-clause-narrow c =
    narrow_below c.args.grid c.args.column.lower c.args.column.upper c.args.x c.in-None-None.is-0
    (subst (λ (n : ℕ). IsWideTimes n c.args.x → ⊥) c.from-in-None-None.ensures
    c.in_ok-y-in-None-None.ensures.narrow)
