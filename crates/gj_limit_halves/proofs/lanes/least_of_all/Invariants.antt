use Rattle.gj_limit_halves.specs.LimitLanes.{AreLeastOf, IsInRows}
use Rattle.gj_limit_halves.proofs.lanes.least_of_all.Given as goal

abbrev pub invariant-loop-a : goal.invariant-loop-a
invariant-loop-a l = AreLeastOf l.shape (IsInRows l.shape.order l.a) l.any l.beside_zero
