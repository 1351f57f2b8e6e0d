use Rattle.gj_perturb.specs.Lanes.{AreLeast, IsInRows}
use Rattle.gj_perturb.proofs.lanes.least_slacks.Given as goal

abbrev pub invariant-loop-i : goal.invariant-loop-i
invariant-loop-i l = AreLeast l.lanes l.n (IsInRows l.n l.i) l.any l.beside_zero
