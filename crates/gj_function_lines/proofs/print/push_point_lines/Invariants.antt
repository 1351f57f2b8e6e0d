use Rattle.gj_function_lines.proofs.PointLines.{ArePushed}
use Rattle.gj_function_lines.proofs.print.push_point_lines.Given as goal

abbrev pub invariant-loop-i : goal.invariant-loop-i
invariant-loop-i l = ArePushed l.shape l.i l.initial.out.items l.out.items
