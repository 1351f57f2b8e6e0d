use Rattle.std.proofs.Common.{Option, Some, refl, sym, subst}
use Rattle.gj_frac.specs.declared.Frac.{Frac}
use Rattle.gj_relaxed.specs.RelaxedProblems.{IsLowered}
use Rattle.gj_relaxed.proofs.columns.lowered.Goals as goal

pub returns-in_ok-below_on_grid-in-Some-clause-bound :
    goal.returns-in_ok-below_on_grid-in-Some-clause-bound
returns-in_ok-below_on_grid-in-Some-clause-bound c =
    let y = c.in_ok-below_on_grid-in-Some.field-0 in
    subst (λ (o : Option Frac). IsLowered c.args.grid o (Some y)) (sym c.in-Some.is)
    (y, refl, c.in_ok-below_on_grid-in-Some.ensures.value)
