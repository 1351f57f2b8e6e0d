use Rattle.std.proofs.Common.{arith}
use Rattle.std.proofs.lemmas.Result.{err_from_is_err_and}
use Rattle.gj_derivation_text.specs.OpenSteps.{begun}
use Rattle.gj_derivation_text.proofs.StepsRead.{step_on, step_fault, step_is}
use Rattle.gj_derivation_text.proofs.steps.lines_of_step_at.Goals as goal

pub returns-in_err-behind-clause-read : goal.returns-in_err-behind-clause-read
returns-in_err-behind-clause-read c =
    let p = err_from_is_err_and c.from_residual.result c.from_residual.ensures.1 in
    rw (p.1, p.2)
    (step_fault c.args.names.now (begun c.args.rule) c.args.text.now _ _ c.loop-used.invariant.leads
    _ c.in_err-behind.ensures.fault)

pub loop-used-preserved : goal.loop-used-preserved
loop-used-preserved c = record {
  used = c.in_ok-behind.ensures.used;
  shorter = omega (
    arith,
    rw c.in-Some.is at c.in_ok-behind.ensures.shorter,
    c.loop-used.invariant.shorter,
  );
  leads = step_on c.args.names.now (begun c.args.rule) c.args.text.now _ _
      c.loop-used.invariant.leads _ _
      (rw c.in-Some.is at c.in_ok-behind.ensures.found);
}

pub returns-clause-read : goal.returns-clause-read
returns-clause-read c =
    step_is c.args.names.now (begun c.args.rule) c.args.text.now _ _ c.loop-used.invariant.leads _ _
    (rw c.in_default.is at c.in_ok-behind.ensures.found) c.draft_of.ensures
