use Rattle.std.proofs.lemmas.Result.{err_from_is_err_and}
use Rattle.gj_proof.proofs.CutRead.{fault_in_rule, fault_in_rows}
use Rattle.gj_proof.proofs.read.cut_at.Goals as goal

pub returns-in_err-rows : goal.returns-in_err-rows
returns-in_err-rows c =
    let p = err_from_is_err_and c.from_residual-in_err-rows.result
    c.from_residual-in_err-rows.ensures.1 in
    rw (p.1, p.2)
    (fault_in_rows _ _ _ _ c.in_ok-rule.ensures c.in_err-rows.ensures)

pub returns-in_err-rule : goal.returns-in_err-rule
returns-in_err-rule c =
    let p = err_from_is_err_and c.from_residual.result c.from_residual.ensures.1 in
    rw (p.1, p.2)
    (fault_in_rule _ _ c.in_err-rule.ensures)
