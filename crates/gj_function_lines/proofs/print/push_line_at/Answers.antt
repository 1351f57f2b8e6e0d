use Rattle.gj_function_lines.proofs.PointLines.{line_pushed}
use Rattle.gj_function_lines.proofs.print.push_line_at.Goals as goal

pub returns : goal.returns
returns c =
    line_pushed c.args.shape.now c.args.i _ _ _ _ c.in_ok-extend_from_slice.ensures.items
    c.in_ok-push_point_at.ensures c.in_ok-push.ensures.items
