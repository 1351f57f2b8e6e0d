use Rattle.std.proofs.Common.{arith}
use Rattle.std.proofs.lemmas.Result.{err_from_is_err_and}
use Rattle.gj_function_lines.proofs.PointsRead.{points_count}
use Rattle.gj_function_lines.proofs.FunctionRead.{in_order, in_place, in_points, whole}
use Rattle.gj_function_lines.proofs.function.function_at.Goals as goal

pub returns-in_err-order : goal.returns-in_err-order
returns-in_err-order c =
    let p = err_from_is_err_and c.from_residual.result c.from_residual.ensures.1 in
    rw (p.1, p.2) (in_order _ _ _ c.in_err-order.ensures)

pub returns-in_err-place : goal.returns-in_err-place
returns-in_err-place c =
    let p = err_from_is_err_and c.from_residual-in_err-place.result
    c.from_residual-in_err-place.ensures.1 in
    rw (p.1, p.2) (in_place _ _ _ _ _ c.in_ok-order.ensures c.in_err-place.ensures)

pub returns-in_err-points : goal.returns-in_err-points
returns-in_err-points c =
    let p = err_from_is_err_and c.from_residual-in_err-points.result
    c.from_residual-in_err-points.ensures.1 in
    rw (p.1, p.2)
    (in_points _ _ _ _ _ _ _ c.in_ok-order.ensures c.in_ok-place.ensures
    c.in_err-points.ensures)

pub shape-requires-clause-count : goal.shape-requires-clause-count
shape-requires-clause-count c =
    let n = points_count _ _ _ _ _ _ c.in_ok-points.ensures in
    omega arith

pub returns : goal.returns
returns c =
    whole _ _ _ _ _ _ _ _ _ c.in_ok-order.ensures c.in_ok-place.ensures
    c.in_ok-points.ensures
    c.in_ok-shape.ensures
