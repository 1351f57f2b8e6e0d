use Rattle.std.proofs.Common.{subst}
use Rattle.std.specs.Option.{option_copied}
use Rattle.gj_derivation.specs.declared.step.Verdict.{Verdict}
use Rattle.gj_derivation.specs.declared.steps.Checked.TheVariants.{Accepted, Failed}
use Rattle.gj_derivation.specs.Checks.{IsVerdict}
use Rattle.gj_derivation.specs.StepLists.{IsFailure}
use Rattle.gj_derivation.proofs.CheckedDerivations.{none_added, added_more, failed_at, all_added, ready_exact, accepted_holds, narrow_to_none, narrow_to_more, failure_tells, accepted_tells}
use Rattle.gj_derivation.proofs.steps.check_steps.Goals as goal

pub returns-in_default : goal.returns-in_default
returns-in_default c =
    let f = option_copied c.args.function in
    let failure : IsFailure f c.args.problem c.args.steps.now (record {
      step = c.loop-i.i;
      verdict = c.in_ok-verdict.verdict;
    }) =
    failed_at f c.args.problem c.loop-i.grown c.args.steps.now c.loop-i.i c.index-steps-i.result
    c.in_ok-verdict.verdict c.loop-i-test.true
    c.index-steps-i.is c.loop-i.invariant.added c.in_ok-verdict.ensures.is
    c.in_default.not-Accepted in
    record {
      is = failure;
      exact = ready_exact f c.args.problem c.args.steps.now
          (Failed (record { step = c.loop-i.i; verdict = c.in_ok-verdict.verdict }))
          c.read_bounds.ensures c.requires failure;
      narrow = failure_tells f c.args.problem c.loop-i.grown c.args.steps.now c.loop-i.i
          c.index-steps-i.result c.in_ok-verdict.verdict c.loop-i-test.true c.index-steps-i.is
          c.loop-i.invariant.added c.loop-i.invariant.narrow c.in_ok-verdict.ensures.narrow;
      holds = λ is. absurd (cc);
    }

pub loop-i-preserved : goal.loop-i-preserved
loop-i-preserved c =
    let f = option_copied c.args.function in
    record {
      added = added_more f c.args.problem c.loop-i.grown c.in_ok-grown.grown c.args.steps.now
          c.loop-i.i c.index-steps-i.result c.loop-i-test.true
          c.index-steps-i.is c.loop-i.invariant.added
          (subst (λ (v : Verdict). IsVerdict f c.loop-i.grown c.index-steps-i.result v)
          c.in-Accepted.is c.in_ok-verdict.ensures.is)
          c.in_ok-grown.ensures;
      narrow = narrow_to_more f c.args.problem c.loop-i.grown c.args.steps.now c.loop-i.i
          c.index-steps-i.result c.loop-i-test.true c.index-steps-i.is c.loop-i.invariant.added
          c.loop-i.invariant.narrow
          (λ wide. let told = c.in_ok-verdict.ensures.narrow wide in let is = c.in-Accepted.is in
          absurd (cc));
    }

pub loop-i-init : goal.loop-i-init
loop-i-init c =
    let f = option_copied c.args.function in
    record {
      added = none_added f c.args.problem;
      narrow = narrow_to_none f c.args.problem c.args.steps.now;
    }

pub returns-clause-is : goal.returns-clause-is
returns-clause-is c =
    let f = option_copied c.args.function in
    all_added f c.args.problem c.loop-i.grown c.args.steps.now c.loop-i.i c.loop-i-test.false
    c.loop-i.invariant.added

pub returns-clause-narrow : goal.returns-clause-narrow
returns-clause-narrow c =
    let f = option_copied c.args.function in
    accepted_tells f c.args.problem c.args.steps.now c.loop-i.i c.loop-i-test.false
    c.loop-i.invariant.narrow

pub returns-clause-holds : goal.returns-clause-holds
returns-clause-holds c =
    let f = option_copied c.args.function in
    accepted_holds f c.args.problem c.args.steps.now Accepted c.read_bounds.ensures c.requires
    (all_added f c.args.problem c.loop-i.grown c.args.steps.now c.loop-i.i c.loop-i-test.false
    c.loop-i.invariant.added)
