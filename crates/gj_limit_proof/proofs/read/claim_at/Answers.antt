use Rattle.std.proofs.lemmas.Bool.{false≢true}
use Rattle.std.proofs.lemmas.Result.{err_from_is_err_and}
use Rattle.gj_limit_proof.proofs.LimitRead.{fault_in_extreme_line, extreme_claim_read}
use Rattle.gj_limit_proof.proofs.read.claim_at.Goals as goal

pub returns-in_err-rest-2 : goal.returns-in_err-rest-2
returns-in_err-rest-2 c =
    let p = err_from_is_err_and c.from_residual-in_err-rest-2.result
    c.from_residual-in_err-rest-2.ensures.1 in
    rw (p.1, p.2)
    (fault_in_extreme_line _ (λ is. false≢true (c.if-begins_with_line.ensures.1 is)) _
    c.in_err-rest-2.ensures.passed)

pub returns : goal.returns
returns c =
    extreme_claim_read _ (λ is. false≢true (c.if-begins_with_line.ensures.1 is)) _ _
    c.in_ok-rest-2.ensures.passed c.extreme_at.ensures
