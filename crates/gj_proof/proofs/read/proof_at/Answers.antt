use Rattle.std.proofs.Common.{[], sym, subst}
use Rattle.std.proofs.lemmas.Result.{err_from_is_err_and}
use Rattle.gj_forms.specs.Parts.{IsFaultOf}
use Rattle.gj_proof.specs.ProofGrammar.{proof_text}
use Rattle.gj_proof.specs.declared.claim.Claim.{Claim}
use Rattle.gj_proof.proofs.ReadTexts.{lines_read, read_is_text}
use Rattle.gj_forms.proofs.PartLaws.{passed_on}
use Rattle.gj_proof.proofs.ReadFaults.{fault_in_word, fault_in_claim, fault_in_last, fault_behind_last}
use Rattle.gj_proof.proofs.read.proof_at.Goals as goal

pub returns-in_err-word-clause-fault : goal.returns-in_err-word-clause-fault
returns-in_err-word-clause-fault c =
    let p = err_from_is_err_and c.from_residual-in_err-word.result
    c.from_residual-in_err-word.ensures.1 in
    passed_on (IsFaultOf proof_text c.args.text.now) _ _ _ p.1 p.2
    (fault_in_word _ _ _ _ c.in_ok-numbers.ensures c.in_err-word.ensures)

pub returns-in_err-claim-clause-fault : goal.returns-in_err-claim-clause-fault
returns-in_err-claim-clause-fault c =
    let p = err_from_is_err_and c.from_residual-in_err-claim.result
    c.from_residual-in_err-claim.ensures.1 in
    passed_on (IsFaultOf proof_text c.args.text.now) _ _ _ p.1 p.2
    (fault_in_claim _ _ _ _ c.in_ok-numbers.ensures _ _ c.in_ok-word.ensures
    c.in_err-claim.ensures)

pub returns-in_err-rest-clause-fault : goal.returns-in_err-rest-clause-fault
returns-in_err-rest-clause-fault c =
    let p = err_from_is_err_and c.from_residual-in_err-rest.result
    c.from_residual-in_err-rest.ensures.1 in
    passed_on (IsFaultOf proof_text c.args.text.now) _ _ _ p.1 p.2
    (fault_in_last _ _ _ _ c.in_ok-numbers.ensures _ _ c.in_ok-word.ensures _ _
    c.in_ok-claim.ensures
    c.in_err-rest.ensures.passed)

pub returns-in_err-end_at-clause-fault : goal.returns-in_err-end_at-clause-fault
returns-in_err-end_at-clause-fault c =
    let p = err_from_is_err_and c.from_residual-in_err-end_at.result
    c.from_residual-in_err-end_at.ensures.1 in
    passed_on (IsFaultOf proof_text c.args.text.now) _ _ _ p.1 p.2
    (fault_behind_last _ _ _ _ c.in_ok-numbers.ensures _ _ c.in_ok-word.ensures _ _
    c.in_ok-claim.ensures
    _ c.in_ok-rest.ensures.passed c.in_err-end_at.ensures.fault)

pub of-requires : goal.of-requires
of-requires c =
    let whole = lines_read _ _ _ _ _ _ _ _ c.in_ok-numbers.ensures c.in_ok-word.ensures
    c.in_ok-claim.ensures
    c.in_ok-rest.ensures.passed c.in_ok-end_at.ensures.ended in
    record { text = (read_is_text _ _ whole).1.has_text }

pub returns-clause-found : goal.returns-clause-found
returns-clause-found c =
    let whole = lines_read _ _ _ _ _ _ _ _ c.in_ok-numbers.ensures c.in_ok-word.ensures
    c.in_ok-claim.ensures
    c.in_ok-rest.ensures.passed c.in_ok-end_at.ensures.ended in
    subst (λ (d : Claim). proof_text.Reads c.args.text.now d []) (sym c.of.ensures.claim) whole
