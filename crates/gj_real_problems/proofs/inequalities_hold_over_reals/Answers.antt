use Rattle.gj_real_problems.proofs.RationalPoints.{returned}
use Rattle.gj_real_problems.proofs.Transfer.{transferred}
use Rattle.gj_real_problems.proofs.inequalities_hold_over_reals.Goals as goal

pub returns : goal.returns
returns g c = λ p q.
    (transferred g.K.Reals.field g.K.Reals.floors p q, returned g.K.Reals.field p q)
