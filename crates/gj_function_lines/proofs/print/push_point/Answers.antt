use Rattle.std.proofs.Common.{sym, ◌∙◌}
use Rattle.gj_function_lines.proofs.PointLines.{even_is_pushed, jump_is_pushed}
use Rattle.gj_function_lines.proofs.print.push_point.Goals as goal

pub returns-then-has_no_jump : goal.returns-then-has_no_jump
returns-then-has_no_jump c =
    even_is_pushed c.args.point c.print_frac.result _ _
    (sym c.has_no_jump.ensures ∙ c.if-has_no_jump.true) c.print_frac.ensures.ok

pub returns : goal.returns
returns c = jump_is_pushed c.args.point c.push_three.result _ _
    (sym c.has_no_jump.ensures ∙ c.if-has_no_jump.false) c.push_three.ensures
