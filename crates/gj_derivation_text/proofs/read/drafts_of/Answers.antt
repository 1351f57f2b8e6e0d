use Rattle.std.proofs.Common.{ap}
use Rattle.std.proofs.lemmas.Result.{err_from_is_err_and}
use Rattle.gj_forms.specs.Parts.{IsFaultOf}
use Rattle.gj_forms.proofs.PartLaws.{passed_on}
use Rattle.gj_derivation_text.specs.DerivationText.{derivation_part}
use Rattle.gj_derivation_text.specs.declared.names.Names.{Names}
use Rattle.gj_derivation_text.proofs.TextRead.{fault_in_title, fault_in_problem, fault_in_steps, fault_behind, whole_text}
use Rattle.gj_derivation_text.proofs.read.drafts_of.Goals as goal

pub returns-in_err-rest-clause-fault : goal.returns-in_err-rest-clause-fault
returns-in_err-rest-clause-fault c =
    let p = err_from_is_err_and c.from_residual.result c.from_residual.ensures.1 in
    passed_on (IsFaultOf (derivation_part c.args.drafts c.args.has_function) c.args.text.now) _ _ _
    p.1 p.2
    (fault_in_title c.args.drafts c.args.has_function c.args.text.now _ c.in_err-rest.ensures.passed)

pub returns-in_err-rest-2-clause-fault : goal.returns-in_err-rest-2-clause-fault
returns-in_err-rest-2-clause-fault c =
    let p = err_from_is_err_and c.from_residual-in_err-rest-2.result
    c.from_residual-in_err-rest-2.ensures.1 in
    passed_on (IsFaultOf (derivation_part c.args.drafts c.args.has_function) c.args.text.now) _ _ _
    p.1 p.2
    (fault_in_problem c.args.drafts c.args.has_function c.args.text.now _ c.in_ok-rest.ensures.passed
    _ c.in_err-rest-2.ensures.fault)

pub returns-in_err-rest-3-clause-fault : goal.returns-in_err-rest-3-clause-fault
returns-in_err-rest-3-clause-fault c =
    let p = err_from_is_err_and c.from_residual-in_err-rest-3.result
    c.from_residual-in_err-rest-3.ensures.1 in
    passed_on (IsFaultOf (derivation_part c.args.drafts c.args.has_function) c.args.text.now) _ _ _
    p.1 p.2
    (fault_in_steps c.args.drafts c.args.has_function c.args.text.now _ c.in_ok-rest.ensures.passed _
    _ c.in_ok-rest-2.ensures.found _
    (ap (λ (m : Names). m.drafts) c.in_ok-rest-2.ensures.names) _ c.in_err-rest-3.ensures.fault)

pub returns-in_err-end_at-clause-fault : goal.returns-in_err-end_at-clause-fault
returns-in_err-end_at-clause-fault c =
    let p = err_from_is_err_and c.from_residual-in_err-end_at.result
    c.from_residual-in_err-end_at.ensures.1 in
    passed_on (IsFaultOf (derivation_part c.args.drafts c.args.has_function) c.args.text.now) _ _ _
    p.1 p.2
    (fault_behind c.args.drafts c.args.has_function c.args.text.now _ c.in_ok-rest.ensures.passed _ _
    c.in_ok-rest-2.ensures.found _
    (ap (λ (m : Names). m.drafts) c.in_ok-rest-2.ensures.names) _ _ _ c.in_ok-rest-3.ensures.found
    c.in_err-end_at.ensures.fault)

pub returns-clause-found : goal.returns-clause-found
returns-clause-found c =
    whole_text c.args.drafts c.args.has_function c.args.text.now _ c.in_ok-rest.ensures.passed _ _
    c.in_ok-rest-2.ensures.found _
    (ap (λ (m : Names). m.drafts) c.in_ok-rest-2.ensures.names) _ _ c.in_ok-rest-3.ensures.found
    c.in_ok-end_at.ensures.ended
