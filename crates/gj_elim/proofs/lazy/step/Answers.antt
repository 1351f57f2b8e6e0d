use Rattle.std.proofs.Common.{rules, ◌≡◌, ap, refl, sym, subst, ◌∙◌}
use Rattle.std.specs.Prelude.{All}
use Rattle.gj_shape.specs.Elimination.{at_column, divided}
use Rattle.gj_frac.specs.Fraction.{Fits}
use Rattle.gj_theory.proofs.Entries.{divided_at_zero}
use Rattle.gj_elim.proofs.LazyRows.{divided_if, exact_divided, divided_some_at, multiple_divided}
use Rattle.gj_elim.proofs.LazyProgress.{lazy_fits}
use Rattle.gj_elim.proofs.lazy.step.Goals as goal

pub returns-in-Some-clause-step : goal.returns-in-Some-clause-step
returns-in-Some-clause-step c other multiple exactly = c.in-Some.ensures.step other multiple

pub returns-then-not-is_stepped-clause-fits : goal.returns-then-not-is_stepped-clause-fits
returns-then-not-is_stepped-clause-fits c none =
    subst (All Fits) (sym (c.store.ensures ∙ c.in_default.ensures.same refl))
    (lazy_fits c.args.extent.bound c.args.extent.end c.args.row.now c.requires.extent
    c.requires.bound)

pub step_once-requires-2-clause-row_zero : goal.step_once-requires-2-clause-row_zero
step_once-requires-2-clause-row_zero c k below =
    let same : c.step_once.new.row ≡ c.args.row.now = c.in_default.ensures.same refl in
    ap (λ xs. at_column xs k) (c.tighten-tight.ensures.value ∙ ap divided same)
    ∙ divided_at_zero c.args.row.now k (c.requires.row_zero k below)

pub step_once-requires-2-clause-some : goal.step_once-requires-2-clause-some
step_once-requires-2-clause-some c e =
    let same : c.step_once.new.row ≡ c.args.row.now = c.in_default.ensures.same refl in
    divided_some_at c.args.row.now c.args.column c.requires.some
    (ap (λ xs. at_column xs c.args.column) (sym (c.tighten-tight.ensures.value ∙ ap divided same))
    ∙ e)

pub returns-in-None-clause-exact : goal.returns-in-None-clause-exact
returns-in-None-clause-exact c none other multiple exactly =
    let same : c.step_once.new.row ≡ c.args.row.now = c.in_default.ensures.same refl in
    exact_divided other c.args.row.now c.store-in-None.new.wide multiple
    (divided_if c.args.is_stepped other c.args.row.now (search rules) exactly)
    (c.store-in-None.ensures ∙ c.in-None.ensures.same refl ∙ c.tighten-tight.ensures.value
    ∙ ap divided same)

pub returns-in-None-clause-fits : goal.returns-in-None-clause-fits
returns-in-None-clause-fits c none =
    subst (All Fits) (sym (c.store-in-None.ensures ∙ c.in-None.ensures.same refl))
    (lazy_fits c.tighten-tight.result.bound c.tighten-tight.result.end c.tighten-tight.new.row
    c.tighten-tight.ensures.extent c.tighten-tight.ensures.bound)

pub returns-in-Some-step_once-clause-step : goal.returns-in-Some-step_once-clause-step
returns-in-Some-step_once-clause-step c other multiple exactly =
    let same : c.step_once.new.row ≡ c.args.row.now = c.in_default.ensures.same refl in
    c.in-Some-step_once.ensures.step other
    (multiple_divided other c.args.row.now c.tighten-tight.new.row multiple
    (divided_if c.args.is_stepped other c.args.row.now (search rules) exactly)
    (c.tighten-tight.ensures.value ∙ ap divided same))
