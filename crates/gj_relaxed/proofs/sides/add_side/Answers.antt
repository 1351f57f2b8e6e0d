use Rattle.std.proofs.Common.{◌≡◌, pos, of_z, inr, ap, subst, ◌∙◌}
use Rattle.gj_frac.specs.Fraction.{numerator}
use Rattle.gj_problem.specs.Aggregates.{Weighted}
use Rattle.gj_problem.proofs.WideRoundings.{handed_on}
use Rattle.gj_relaxed.specs.RelaxedSteps.{IsRelaxedOrFree}
use Rattle.gj_relaxed.proofs.sides.add_side.Goals as goal
use mir.Syntax.{w128}

pub returns-in_err-constraint-clause-wide : goal.returns-in_err-constraint-clause-wide
returns-in_err-constraint-clause-wide c = λ fault.
    c.in_err-constraint.ensures.wide
    (handed_on c.from_residual.result _ _ c.from_residual.ensures.1 fault)

pub returns-in_ok-add-in-Made-clause-next : goal.returns-in_ok-add-in-Made-clause-next
returns-in_ok-add-in-Made-clause-next c =
    let w : Weighted = record {
      multiplier = c.args.multiplier;
      constraint =
          c.args.constraint.now;
    } in
    let made : Weighted =
    record { multiplier = c.in-Made.multiplier; constraint = c.in-Made.constraint } in
    let some : numerator w.multiplier ≡ pos 0 →
    ⊥ = λ none. c.if-num-eq0.false (ap (of_z w128) (c.num.ensures ∙ none)) in (
      c.in_ok-add-in-Made.ensures.count,
      inr (
        some,
        made,
        subst (IsRelaxedOrFree c.args.problem.now c.args.grid w) c.in-Made.is
            c.in_ok-constraint.ensures.side,
        c.in_ok-add-in-Made.ensures.added,
      ),
    )
