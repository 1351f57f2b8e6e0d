use Rattle.std.proofs.lemmas.Result.{err_from_is_err_and}
use Rattle.gj_forms.specs.Parts.{IsFaultOf}
use Rattle.gj_forms.proofs.PartLaws.{passed_on}
use Rattle.gj_derivation_text.specs.DerivationText.{step_part}
use Rattle.gj_derivation_text.proofs.StepsRead.{fault_in_lines, step_read}
use Rattle.gj_derivation_text.proofs.steps.step_at.Goals as goal

pub returns-in_err-draft-clause-fault : goal.returns-in_err-draft-clause-fault
returns-in_err-draft-clause-fault c =
    let head = c.in_ok-head.head in
    let drafts = c.args.names.now.drafts in
    let p = err_from_is_err_and c.from_residual-in_err-draft.result
    c.from_residual-in_err-draft.ensures.1 in
    passed_on (IsFaultOf (step_part drafts c.args.has_function c.args.drafts.now) c.args.text.now) _
    _ _ p.1 p.2
    (fault_in_lines drafts c.args.has_function c.args.drafts.now c.args.text.now c.args.names.now
    c.requires.names
    ((head.name.now, (head.rule, tt)), head.left) head.rest.now c.in_ok-head.ensures.found _
    c.in_err-draft.ensures.read)

pub returns-clause-found : goal.returns-clause-found
returns-clause-found c =
    let head = c.in_ok-head.head in
    step_read c.args.names.now.drafts c.args.has_function c.args.drafts.now c.args.text.now
    c.args.names.now c.requires.names
    ((head.name.now, (head.rule, tt)), head.left) head.rest.now c.in_ok-head.ensures.found _ _ _
    c.in_ok-draft.ensures.read
    c.in_ok-push_step.ensures.added
