use Rattle.std.proofs.Common.{ℕ, inr, subst}
use Rattle.gj_problem.proofs.WideRoundings.{handed_on}
use Rattle.gj_relaxed.specs.RelaxedProblems.{AreWideSides}
use Rattle.gj_relaxed.proofs.problems.relaxed_problem.Goals as goal

pub returns-in_err-sides-clause-wide : goal.returns-in_err-sides-clause-wide
returns-in_err-sides-clause-wide c = λ fault.
    inr (subst (λ (n : ℕ). AreWideSides n c.args.problem.now c.args.multipliers.now)
    c.from-grid.ensures
    (c.in_err-sides.ensures.wide
    (handed_on c.from_residual.result _ _ c.from_residual.ensures.1 fault)))
