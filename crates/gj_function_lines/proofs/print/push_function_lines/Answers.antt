use Rattle.gj_function_lines.proofs.PointLines.{lines_pushed}
use Rattle.gj_function_lines.proofs.print.push_function_lines.Goals as goal

pub returns : goal.returns
returns c =
    lines_pushed c.args.shape.now _ c.f.result c.push_point_lines.result _ _ _ c.order.ensures.value
    c.f.ensures.value
    c.in_ok-push_head.ensures c.push_point_lines.ensures
