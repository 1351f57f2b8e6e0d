use Rattle.std.proofs.Common.{sym, ap, ◌∙◌}
use Rattle.gj_function_lines.specs.FunctionLines.{has_no_jump}
use Rattle.gj_function_lines.proofs.PointLines.{even_break_pushed}
use Rattle.gj_function_lines.proofs.print.push_break_line.Goals as goal

pub returns-then-has_no_jump : goal.returns-then-has_no_jump
returns-then-has_no_jump c =
    even_break_pushed c.args.point c.print_pair.result _ _ _
    (ap has_no_jump (sym c.limits_of.ensures) ∙ sym c.has_no_jump.ensures ∙ c.if-has_no_jump.true)
    c.in_ok-extend_from_slice.ensures.items c.print_pair.ensures.ok
