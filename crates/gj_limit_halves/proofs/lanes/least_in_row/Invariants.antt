use Rattle.gj_limit_halves.specs.LimitLanes.{AreLeastOf, IsInRow}
use Rattle.gj_limit_halves.proofs.lanes.least_in_row.Given as goal

abbrev pub invariant-loop-b : goal.invariant-loop-b
invariant-loop-b l = AreLeastOf l.shape (IsInRow l.a l.b) l.any l.beside_zero
