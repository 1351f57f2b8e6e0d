use Rattle.std.proofs.lemmas.Bool.{false≢true}
use Rattle.std.proofs.lemmas.Result.{err_from_is_err_and}
use Rattle.gj_lex.specs.declared.spelling.Spelling.TheVariants.{Lenient}
use Rattle.gj_forms.specs.Parts.{IsFaultOf}
use Rattle.gj_forms.proofs.PartLaws.{passed_on}
use Rattle.gj_forms.proofs.WhereLaws.{line_is_shorter}
use Rattle.gj_derivation_text.specs.OpenSteps.{next_of_step}
use Rattle.gj_derivation_text.proofs.StepsRead.{no_step_line, step_line_read, step_line_fault}
use Rattle.gj_derivation_text.proofs.steps.step_line_at.Goals as goal

pub returns-in_err-line-clause-fault : goal.returns-in_err-line-clause-fault
returns-in_err-line-clause-fault c =
    let p = err_from_is_err_and c.from_residual.result c.from_residual.ensures.1 in
    passed_on (IsFaultOf (next_of_step c.args.names.now c.args.step.now) c.args.text.now) _ _ _ p.1
    p.2
    (no_step_line c.args.names.now c.args.step.now c.args.text.now _ c.in_err-line.ensures.fault)

pub returns-in-Ok-clause-shorter : goal.returns-in-Ok-clause-shorter
returns-in-Ok-clause-shorter c = line_is_shorter Lenient _ _ _ _ c.in_ok-line.ensures.found

pub returns-in-Ok-clause-found : goal.returns-in-Ok-clause-found
returns-in-Ok-clause-found c =
    step_line_read c.args.names.now c.args.step.now c.args.text.now _ _ _ _
    c.in_ok-line.ensures.found
    (λ h. false≢true (c.if-ends_before.ensures.1 h)) _ c.in-Ok.ensures.found

pub returns-in-Err-Broken-clause-fault : goal.returns-in-Err-Broken-clause-fault
returns-in-Err-Broken-clause-fault c =
    step_line_fault c.args.names.now c.args.step.now c.args.text.now _ _ _ _
    c.in_ok-line.ensures.found
    (λ h. false≢true (c.if-ends_before.ensures.1 h)) _ c.in-Err-Broken.reason
    (rw c.in-Err-Broken.field-0-is at c.in-Err-Broken.ensures.broken) c.at.ensures
