use Rattle.std.proofs.lemmas.Result.{err_from_is_err_and}
use Rattle.gj_limit_proof.proofs.LimitRead.{fault_in_cover, fault_in_numbers, fault_in_groups, extreme_read}
use Rattle.gj_limit_proof.proofs.read.extreme_at.Goals as goal

pub returns-in_err-lines : goal.returns-in_err-lines
returns-in_err-lines c =
    let p = err_from_is_err_and c.from_residual-in_err-lines.result
    c.from_residual-in_err-lines.ensures.1 in
    rw (p.1, p.2)
    (fault_in_cover _ _ _ _ c.order-order.ensures.value c.in_ok-shape.ensures _
    c.in_err-lines.ensures)

pub returns-in_err-numbers : goal.returns-in_err-numbers
returns-in_err-numbers c =
    let p = err_from_is_err_and c.from_residual-in_err-numbers.result
    c.from_residual-in_err-numbers.ensures.1 in
    rw (p.1, p.2)
    (fault_in_numbers _ _ _ _ c.order-order.ensures.value c.in_ok-shape.ensures _ _
    c.in_ok-lines.ensures _
    c.in_err-numbers.ensures)

pub returns-in_err-rows : goal.returns-in_err-rows
returns-in_err-rows c =
    let p = err_from_is_err_and c.from_residual-in_err-rows.result
    c.from_residual-in_err-rows.ensures.1 in
    rw (p.1, p.2)
    (fault_in_groups _ _ _ _ c.order-order.ensures.value c.in_ok-shape.ensures _ _
    c.in_ok-lines.ensures _ _
    c.in_ok-numbers.ensures _ c.in_err-rows.ensures)

pub returns : goal.returns
returns c =
    rw (c.of.ensures, c.of-2.ensures)
    (extreme_read _ _ _ _ c.order-order.ensures.value c.in_ok-shape.ensures _ _
    c.in_ok-lines.ensures _ _
    c.in_ok-numbers.ensures _ _ c.in_ok-rows.ensures)
