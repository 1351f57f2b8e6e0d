use Rattle.gj_theory.proofs.PivotsLeaveZero.{whole_cancels, only_zero}
use Rattle.gj_theory.proofs.extreme.rows_with_pivots_leave_only_zero.Goals as goal

pub returns : goal.returns
returns c = only_zero whole_cancels
