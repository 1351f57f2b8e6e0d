use Rattle.gj_theory.proofs.TwoSlopeRows.{two_rows}
use Rattle.gj_theory.proofs.two_slopes.two_rows_leave_zero.Goals as goal

pub returns : goal.returns
returns c = two_rows
