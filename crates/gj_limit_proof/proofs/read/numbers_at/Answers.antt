use Rattle.std.proofs.Common.{refl}
use Rattle.std.proofs.lemmas.Result.{err_from_is_err_and}
use Rattle.gj_limit_proof.proofs.LimitRead.{fault_in_modulus}
use Rattle.gj_limit_proof.proofs.read.numbers_at.Goals as goal

pub returns-in_err-rest : goal.returns-in_err-rest
returns-in_err-rest c =
    let p = err_from_is_err_and c.from_residual.result c.from_residual.ensures.1 in
    rw (p.1, p.2)
    (fault_in_modulus _ _ (c.if-not-begins_with_word.ensures.0 refl) c.in_err-rest.ensures)
