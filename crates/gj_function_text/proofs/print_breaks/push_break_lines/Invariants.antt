use Rattle.std.proofs.Common.{◌≡◌, ◌++◌, flat_map, take}
use Rattle.gj_function_lines.specs.BreakLines.{break_line}
use Rattle.gj_function_text.proofs.print_breaks.push_break_lines.Given as goal

abbrev pub invariant-loop-point : goal.invariant-loop-point
invariant-loop-point l = l.out.items ≡ l.fn.out.items ++ flat_map break_line
    (take l.point-index l.points)
