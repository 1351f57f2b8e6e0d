use Rattle.std.proofs.Common.{inl, inr, Option, sym, subst, subst₂, ◌∙◌}
use Rattle.gj_frac.proofs.Refusals.{on_err}
use Rattle.gj_problem.specs.RoundedCuts.{lower_of, IsWideMove}
use Rattle.gj_problem.proofs.WideRoundings.{raised_wide}
use Rattle.gj_frac.specs.declared.Frac.{Frac}
use Rattle.gj_fields.specs.Rational.{rational}
use Rattle.gj_problem.proofs.AddedSums.{negation_value}
use Rattle.gj_problem.specs.RoundedCuts.{upper_of, IsMoved}
use Rattle.gj_problem.proofs.MovedEntries.{raised_to, lowered_to}
use Rattle.gj_problem.proofs.NarrowRoundings.{narrow_raised, narrow_lowered}
use Rattle.gj_problem.proofs.rounding.moved_entry.Goals as goal

pub returns-in_ok-moved_to-in-Some-default-clause-value :
    goal.returns-in_ok-moved_to-in-Some-default-clause-value
returns-in_ok-moved_to-in-Some-default-clause-value c =
    let x = c.args.entry.value in
    let z = c.in_ok-below_on_grid-in-Some-default.field-0 in
    let value = c.neg-in-Some-default.result in
    let made = c.in_ok-moved_to-in-Some-default in
    let upper = upper_of c.args.problem.now c.args.entry.column in
    subst (λ (lower : Option Frac). IsMoved c.args.grid lower upper (rational x)
    (rational made.field-0.value) (rational made.field-0.shift))
    (sym c.in-Some-default.is-0 ∙ c.lower_bound.ensures)
    (raised_to c.args.grid x c.neg.result z value c.in-Some-default.lower made.field-0.value
    made.field-0.shift upper
    (negation_value x c.neg.result c.neg.ensures)
    c.in_ok-below_on_grid-in-Some-default.ensures.value
    (negation_value z value c.neg-in-Some-default.ensures) made.ensures.value made.ensures.shift)

pub returns-in_err-below_on_grid-in-Some-default-clause-wide :
    goal.returns-in_err-below_on_grid-in-Some-default-clause-wide
returns-in_err-below_on_grid-in-Some-default-clause-wide c =
    let x = c.args.entry.value in
    let lower = lower_of c.args.problem.now c.args.entry.column in
    let upper = upper_of c.args.problem.now c.args.entry.column in
    on_err c.from_residual.result (IsWideMove c.args.grid lower upper x)
    (subst (λ (o : Option Frac). IsWideMove c.args.grid o upper x) (sym c.in-Some-default.is-0
    ∙ c.lower_bound.ensures)
    (inl (
      c.neg.result,
      negation_value x c.neg.result c.neg.ensures,
      c.in_err-below_on_grid-in-Some-default.ensures.wide,
    )))

pub returns-in_err-moved_to-in-Some-default-clause-wide :
    goal.returns-in_err-moved_to-in-Some-default-clause-wide
returns-in_err-moved_to-in-Some-default-clause-wide c =
    let x = c.args.entry.value in
    let z = c.in_ok-below_on_grid-in-Some-default.field-0 in
    let lower = lower_of c.args.problem.now c.args.entry.column in
    let upper = upper_of c.args.problem.now c.args.entry.column in
    on_err c.from_residual-in_err-moved_to-in-Some-default.result
    (IsWideMove c.args.grid lower upper x)
    (subst (λ (o : Option Frac). IsWideMove c.args.grid o upper x) (sym c.in-Some-default.is-0
    ∙ c.lower_bound.ensures)
    (raised_wide c.args.grid x c.neg.result z c.neg-in-Some-default.result c.in-Some-default.lower
    upper
    (negation_value x c.neg.result c.neg.ensures)
    c.in_ok-below_on_grid-in-Some-default.ensures.value
    (negation_value z c.neg-in-Some-default.result c.neg-in-Some-default.ensures)
    c.in_err-moved_to-in-Some-default.ensures.wide))

pub returns-in_err-moved_to-in-None-Some-clause-wide :
    goal.returns-in_err-moved_to-in-None-Some-clause-wide
returns-in_err-moved_to-in-None-Some-clause-wide c =
    let x = c.args.entry.value in
    let lower = lower_of c.args.problem.now c.args.entry.column in
    let upper = upper_of c.args.problem.now c.args.entry.column in
    on_err c.from_residual-in_err-moved_to-in-None-Some.result
    (IsWideMove c.args.grid lower upper x)
    (subst₂ (λ (o o' : Option Frac). IsWideMove c.args.grid o o' x)
    (sym c.in-None-Some.is-0 ∙ c.lower_bound.ensures)
    (sym c.in-None-Some.is-1 ∙ c.upper_bound.ensures)
    (inr (
      c.in_ok-below_on_grid-in-None-Some.field-0,
      c.in_ok-below_on_grid-in-None-Some.ensures.value,
      c.in_err-moved_to-in-None-Some.ensures.wide,
    )))

pub returns-in_ok-moved_to-in-None-Some-clause-value :
    goal.returns-in_ok-moved_to-in-None-Some-clause-value
returns-in_ok-moved_to-in-None-Some-clause-value c =
    let p = c.args.problem.now in
    let j = c.args.entry.column in
    let made = c.in_ok-moved_to-in-None-Some in
    lowered_to c.args.grid c.args.entry.value c.in_ok-below_on_grid-in-None-Some.field-0
    c.in-None-Some.upper made.field-0.value made.field-0.shift
    (lower_of p j) (upper_of p j) (sym c.lower_bound.ensures ∙ c.in-None-Some.is-0)
    (sym c.upper_bound.ensures ∙ c.in-None-Some.is-1)
    c.in_ok-below_on_grid-in-None-Some.ensures.value made.ensures.value made.ensures.shift

pub returns-in_ok-moved_to-in-Some-default-clause-narrow :
    goal.returns-in_ok-moved_to-in-Some-default-clause-narrow
returns-in_ok-moved_to-in-Some-default-clause-narrow c =
    let x = c.args.entry.value in
    let z = c.in_ok-below_on_grid-in-Some-default.field-0 in
    let value = c.neg-in-Some-default.result in
    let upper = upper_of c.args.problem.now c.args.entry.column in
    subst (λ (lower : Option Frac). IsWideMove c.args.grid lower upper x → ⊥)
    (sym c.in-Some-default.is-0 ∙ c.lower_bound.ensures)
    (narrow_raised c.args.grid x c.neg.result z value c.in-Some-default.lower upper
    (negation_value x c.neg.result c.neg.ensures)
    c.in_ok-below_on_grid-in-Some-default.ensures.narrow
    c.in_ok-below_on_grid-in-Some-default.ensures.value
    (negation_value z value c.neg-in-Some-default.ensures)
    c.in_ok-moved_to-in-Some-default.ensures.narrow)

pub returns-in_ok-moved_to-in-None-Some-clause-narrow :
    goal.returns-in_ok-moved_to-in-None-Some-clause-narrow
returns-in_ok-moved_to-in-None-Some-clause-narrow c =
    let x = c.args.entry.value in
    subst₂ (λ (lower upper : Option Frac). IsWideMove c.args.grid lower upper x → ⊥)
    (sym c.in-None-Some.is-0 ∙ c.lower_bound.ensures)
    (sym c.in-None-Some.is-1 ∙ c.upper_bound.ensures)
    (narrow_lowered c.args.grid x c.in_ok-below_on_grid-in-None-Some.field-0 c.in-None-Some.upper
    c.in_ok-below_on_grid-in-None-Some.ensures.narrow
    c.in_ok-below_on_grid-in-None-Some.ensures.value
    c.in_ok-moved_to-in-None-Some.ensures.narrow)
