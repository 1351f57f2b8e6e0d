use Rattle.std.proofs.lemmas.Bool.{false≢true}
use Rattle.std.proofs.lemmas.Result.{err_from_is_err_and}
use Rattle.gj_proof.proofs.CutRead.{fault_in_gmic, fault_in_table}
use Rattle.gj_proof.proofs.cut_rows.rule_at.Goals as goal

pub returns-in_err-rest : goal.returns-in_err-rest
returns-in_err-rest c =
    let p = err_from_is_err_and c.from_residual.result c.from_residual.ensures.1 in
    rw (p.1, p.2)
    (fault_in_gmic _ _ (c.begins_with_line.ensures.0 c.if-begins_with_line.true)
    c.in_err-rest.ensures.passed)

pub returns-in_err-shape : goal.returns-in_err-shape
returns-in_err-shape c =
    let p = err_from_is_err_and c.from_residual-in_err-shape.result
    c.from_residual-in_err-shape.ensures.1 in
    rw (p.1, p.2)
    (fault_in_table _ _ (λ is. false≢true (c.if-begins_with_line.ensures.1 is))
    c.in_err-shape.ensures)
