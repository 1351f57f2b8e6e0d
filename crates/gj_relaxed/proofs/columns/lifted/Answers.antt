use Rattle.std.proofs.Common.{Option, Some, refl, sym, subst}
use Rattle.gj_frac.specs.declared.Frac.{Frac}
use Rattle.gj_frac.proofs.Refusals.{on_err}
use Rattle.gj_relaxed.specs.RelaxedProblems.{IsLifted, IsWideLifting}
use Rattle.gj_relaxed.proofs.columns.lifted.Goals as goal

pub returns-in_err-above_on_grid-in-Some-clause-wide :
    goal.returns-in_err-above_on_grid-in-Some-clause-wide
returns-in_err-above_on_grid-in-Some-clause-wide c =
    on_err c.from_residual.result (IsWideLifting c.args.grid c.args.bound)
    (subst (λ (o : Option Frac). IsWideLifting c.args.grid o)
    (sym c.in-Some.is) c.in_err-above_on_grid-in-Some.ensures.wide)

pub returns-in_ok-above_on_grid-in-Some-clause-bound :
    goal.returns-in_ok-above_on_grid-in-Some-clause-bound
returns-in_ok-above_on_grid-in-Some-clause-bound c =
    let y = c.in_ok-above_on_grid-in-Some.field-0 in
    subst (λ (o : Option Frac). IsLifted c.args.grid o (Some y)) (sym c.in-Some.is)
    (y, refl, c.in_ok-above_on_grid-in-Some.ensures.above)
