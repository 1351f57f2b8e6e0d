use Rattle.std.proofs.lemmas.Result.{err_from_is_err_and}
use Rattle.gj_proof.proofs.ExtremeRead.{fault_in_cover, fault_in_modulus, fault_in_groups, extreme_read}
use Rattle.gj_proof.proofs.read.extreme_at.Goals as goal

pub returns-in_err-lines : goal.returns-in_err-lines
returns-in_err-lines c =
    let p = err_from_is_err_and c.from_residual-in_err-lines.result
    c.from_residual-in_err-lines.ensures.1 in
    rw (p.1, p.2)
    (fault_in_cover c.args.numbers _ _ _ _ _ c.order-order.ensures.value c.in_ok-shape.ensures
    c.in_err-lines.ensures)

pub returns-in_err-rest : goal.returns-in_err-rest
returns-in_err-rest c =
    let p = err_from_is_err_and c.from_residual-in_err-rest.result
    c.from_residual-in_err-rest.ensures.1 in
    rw (p.1, p.2)
    (fault_in_modulus c.args.numbers _ _ _ _ _ c.order-order.ensures.value
    c.in_ok-shape.ensures _ _ c.in_ok-lines.ensures
    c.in_err-rest.ensures)

pub returns-in_err-rows : goal.returns-in_err-rows
returns-in_err-rows c =
    let p = err_from_is_err_and c.from_residual-in_err-rows.result
    c.from_residual-in_err-rows.ensures.1 in
    rw (p.1, p.2)
    (fault_in_groups c.args.numbers _ _ _ _ _ c.order-order.ensures.value
    c.in_ok-shape.ensures _ _ c.in_ok-lines.ensures
    _ c.in_ok-rest.ensures c.in_err-rows.ensures)

pub returns : goal.returns
returns c =
    extreme_read c.args.numbers _ _ _ _ _ _ _ _ _ _ c.order-order.ensures.value
    c.in_ok-shape.ensures c.in_ok-lines.ensures
    c.in_ok-rest.ensures c.in_ok-rows.ensures c.extreme_claim.ensures
