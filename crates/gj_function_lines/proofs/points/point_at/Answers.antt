use Rattle.gj_function_lines.specs.Reading.{point_of_printed}
use Rattle.gj_function_lines.proofs.CanonicalFunctions.{line_is_read}
use Rattle.gj_function_lines.proofs.PointsRead.{point_refused, point_read}
use Rattle.gj_function_lines.proofs.points.point_at.Goals as goal

pub returns-in-Ok-clause-found : goal.returns-in-Ok-clause-found
returns-in-Ok-clause-found c =
    let p = point_of_printed c.in-Some.printed in
    point_read _ _ _ _ _ _ p (line_is_read c.args.spelling p _ _ c.in-Some.ensures)
    c.in-Ok.ensures.ok c.in-Ok.ensures.small
    c.in-Ok.ensures.common

pub returns-in-Err-clause-fault : goal.returns-in-Err-clause-fault
returns-in-Err-clause-fault c =
    let p = point_of_printed c.in-Some.printed in
    rw c.refusal_of.ensures
    (point_refused _ _ _ _ _ p _ (line_is_read c.args.spelling p _ _ c.in-Some.ensures)
    c.in-Err.ensures.fault)
