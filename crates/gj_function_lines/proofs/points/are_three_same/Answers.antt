use Rattle.std.proofs.Common.{sym}
use Rattle.gj_function_lines.proofs.LinesRead.{three_same_by_tests}
use Rattle.gj_function_lines.proofs.points.are_three_same.Goals as goal

pub returns-then-eq : goal.returns-then-eq
returns-then-eq c =
    rw c.in-Strict-Three.is-1
    (three_same_by_tests c.args.spelling _ _ _ c.eq-then-eq.result c.in-Strict-Three.is-0
    (sym c.if-eq.ensures) c.eq-then-eq.ensures)
