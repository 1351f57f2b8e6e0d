use Rattle.gj_derivation_text.proofs.PrintedSteps.{three, step_is}
use Rattle.gj_derivation_text.proofs.print.push_step.Goals as goal

pub returns : goal.returns
returns c =
    three _ _ _ _ _ _ _ _ c.in_ok-push_line.ensures c.in_ok-push_combination.ensures
    c.in_ok-push_claim.ensures
    (step_is c.args.columns.now c.args.lines.now c.args.name.now c.args.step.now)
