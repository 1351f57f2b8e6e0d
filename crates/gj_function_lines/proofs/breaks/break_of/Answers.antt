use Rattle.gj_shape.specs.Breaks.{point_at}
use Rattle.gj_function_lines.proofs.breaks.break_of.Goals as goal

pub returns-in_err-x-clause-none : goal.returns-in_err-x-clause-none
returns-in_err-x-clause-none c =
    rw c.from_residual.ensures (λ b is point. c.in_err-x.ensures.none b.x is)

pub returns-in_err-point-clause-none : goal.returns-in_err-point-clause-none
returns-in_err-point-clause-none c =
    rw c.from_residual-in_err-point.ensures
    (λ b is point. c.in_err-point.ensures.none (point_at b) point)
