use Rattle.std.proofs.lemmas.Result.{err_from_is_err_and}
use Rattle.gj_function_text.proofs.FunctionTexts.{fault_in_body, fault_in_end}
use Rattle.gj_function_text.proofs.read.points_text_at.Goals as goal

pub returns-in_err-shape : goal.returns-in_err-shape
returns-in_err-shape c =
    let p = err_from_is_err_and c.from_residual-in_err-shape.result
    c.from_residual-in_err-shape.ensures.1 in
    rw (p.1, p.2)
    (fault_in_body _ _ _ c.in_ok-rest.ensures.passed c.in_err-shape.ensures)

pub returns-in_err-rest-2 : goal.returns-in_err-rest-2
returns-in_err-rest-2 c =
    let p = err_from_is_err_and c.from_residual-in_err-rest-2.result
    c.from_residual-in_err-rest-2.ensures.1 in
    rw (p.1, p.2)
    (fault_in_end _ _ _ _ _ c.in_ok-rest.ensures.passed c.in_ok-shape.ensures
    c.in_err-rest-2.ensures.passed)
