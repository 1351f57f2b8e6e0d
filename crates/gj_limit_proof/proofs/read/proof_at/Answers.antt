use Rattle.std.proofs.Common.{[], sym, subst}
use Rattle.std.proofs.lemmas.Result.{err_from_is_err_and}
use Rattle.gj_forms.specs.Parts.{IsFaultOf}
use Rattle.gj_forms.proofs.PartLaws.{passed_on}
use Rattle.gj_limit_proof.specs.LimitGrammar.{limit_proof_text}
use Rattle.gj_limit_proof.specs.declared.claim.LimitClaim.{LimitClaim}
use Rattle.gj_limit_proof.proofs.LimitRead.{fault_in_claim, fault_in_last, fault_behind_last}
use Rattle.gj_limit_proof.proofs.LimitReadTexts.{lines_read, read_is_text}
use Rattle.gj_limit_proof.proofs.read.proof_at.Goals as goal

pub returns-in_err-claim-clause-fault : goal.returns-in_err-claim-clause-fault
returns-in_err-claim-clause-fault c =
    let p = err_from_is_err_and c.from_residual-in_err-claim.result
    c.from_residual-in_err-claim.ensures.1 in
    passed_on (IsFaultOf limit_proof_text c.args.text.now) _ _ _ p.1 p.2
    (fault_in_claim _ _ _ c.in_ok-rest.ensures c.in_err-claim.ensures)

pub returns-in_err-rest-2-clause-fault : goal.returns-in_err-rest-2-clause-fault
returns-in_err-rest-2-clause-fault c =
    let p = err_from_is_err_and c.from_residual-in_err-rest-2.result
    c.from_residual-in_err-rest-2.ensures.1 in
    passed_on (IsFaultOf limit_proof_text c.args.text.now) _ _ _ p.1 p.2
    (fault_in_last _ _ _ c.in_ok-rest.ensures _ _ c.in_ok-claim.ensures
    c.in_err-rest-2.ensures.passed)

pub returns-in_err-end_at-clause-fault : goal.returns-in_err-end_at-clause-fault
returns-in_err-end_at-clause-fault c =
    let p = err_from_is_err_and c.from_residual-in_err-end_at.result
    c.from_residual-in_err-end_at.ensures.1 in
    passed_on (IsFaultOf limit_proof_text c.args.text.now) _ _ _ p.1 p.2
    (fault_behind_last _ _ _ c.in_ok-rest.ensures _ _ c.in_ok-claim.ensures _
    c.in_ok-rest-2.ensures.passed
    c.in_err-end_at.ensures.fault)

pub of-requires : goal.of-requires
of-requires c =
    let whole = lines_read _ _ _ _ _ c.in_ok-rest.ensures c.in_ok-claim.ensures
    c.in_ok-rest-2.ensures.passed
    c.in_ok-end_at.ensures.ended in
    record { text = (read_is_text _ _ whole).1.has_text }

pub returns-clause-found : goal.returns-clause-found
returns-clause-found c =
    let whole = lines_read _ _ _ _ _ c.in_ok-rest.ensures c.in_ok-claim.ensures
    c.in_ok-rest-2.ensures.passed
    c.in_ok-end_at.ensures.ended in
    subst (λ (d : LimitClaim). limit_proof_text.Reads c.args.text.now d [])
    (sym c.of.ensures.claim) whole
