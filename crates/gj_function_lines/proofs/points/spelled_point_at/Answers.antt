use Rattle.std.proofs.lemmas.Result.{err_from_is_err_and}
use Rattle.gj_function_lines.proofs.PointsRead.{point_refused, point_read}
use Rattle.gj_function_lines.proofs.points.spelled_point_at.Goals as goal

pub returns-in-Ok-clause-found : goal.returns-in-Ok-clause-found
returns-in-Ok-clause-found c =
    point_read _ _ _ _ _ _ c.in_ok-line.line.point c.in_ok-line.ensures.found c.in-Ok.ensures.ok
    c.in-Ok.ensures.small
    c.in-Ok.ensures.common

pub returns-in-Err-clause-fault : goal.returns-in-Err-clause-fault
returns-in-Err-clause-fault c =
    rw c.refusal_of.ensures
    (point_refused _ _ _ _ _ c.in_ok-line.line.point _ c.in_ok-line.ensures.found
    c.in-Err.ensures.fault)

pub returns-in_err-line-clause-fault : goal.returns-in_err-line-clause-fault
returns-in_err-line-clause-fault c =
    let p = err_from_is_err_and c.from_residual.result c.from_residual.ensures.1 in
    rw (p.1, p.2) (c.in_err-line.ensures.fault c.args.points.now)
