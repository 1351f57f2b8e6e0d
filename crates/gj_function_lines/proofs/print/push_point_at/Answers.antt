use Rattle.gj_function_lines.proofs.PointLines.{even_pushed, point_pushed}
use Rattle.gj_function_lines.proofs.print.push_point_at.Goals as goal

pub returns-then-is_even_at : goal.returns-then-is_even_at
returns-then-is_even_at c =
    even_pushed _ _ c.value.result _ _ _ (c.is_even_at.ensures c.if-is_even_at.true) c.value.ensures
    c.print_frac.ensures.ok

pub returns : goal.returns
returns c = point_pushed _ _ c.point_at.result _ _ _ c.point_at.ensures c.push_point.ensures
