use Rattle.std.specs.Option.{option_copied}
use Rattle.gj_derivation.proofs.CheckedSteps.{usable_function}
use Rattle.gj_derivation.proofs.OneBase.{usable_from}
use Rattle.gj_derivation.proofs.ExactVerdicts.{verdict_exact}
use Rattle.gj_derivation.proofs.check.check_step.Goals as goal

pub returns-in-Ok-clause-exact : goal.returns-in-Ok-clause-exact
returns-in-Ok-clause-exact c =
    let f = option_copied c.args.function in
    verdict_exact f c.args.problem.now c.args.step.now c.in-Ok.verdict
    (usable_from f c.args.step.now.combination.rule
    (usable_function f c.args.step.now.combination.rule c.read_bounds.ensures c.requires.function))
    c.in-Ok.ensures.is

pub returns-in-Ok-clause-narrow : goal.returns-in-Ok-clause-narrow
returns-in-Ok-clause-narrow c wide =
    let f = option_copied c.args.function in
    absurd (c.in-Ok.ensures.narrow
    (usable_from f c.args.step.now.combination.rule
    (usable_function f c.args.step.now.combination.rule c.read_bounds.ensures c.requires.function))
    wide)
