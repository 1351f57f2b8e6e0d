use Rattle.std.proofs.Common.{◌-◌}
use Rattle.gj_function_lines.proofs.PointsRead.{GoesOn}
use Rattle.gj_function_lines.proofs.points.points_at.Given as goal

abbrev pub invariant-loop : goal.invariant-loop
invariant-loop l = GoesOn l.spelling l.text l.count (l.count - l.counter) l.points l.rest
