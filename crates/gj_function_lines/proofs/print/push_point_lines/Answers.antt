use Rattle.std.proofs.Common.{arith}
use Rattle.gj_function_lines.proofs.PointLines.{none_pushed, one_pushed, all_pushed}
use Rattle.gj_function_lines.proofs.print.push_point_lines.Goals as goal

pub loop-i-init : goal.loop-i-init
loop-i-init c = none_pushed _ _

pub loop-i-preserved : goal.loop-i-preserved
loop-i-preserved c =
    let (p, is, pushed) = c.in_ok-push_line_at.ensures in
    one_pushed _ _ p _ _ _ c.order-i-end.ensures.limits (omega (arith, c.order-i-end.ensures.value))
    c.loop-i.invariant is pushed

pub returns : goal.returns
returns c =
    all_pushed _ _ _ _ c.order-i-end.ensures.limits (omega (arith, c.order-i-end.ensures.value))
    c.loop-i.invariant
