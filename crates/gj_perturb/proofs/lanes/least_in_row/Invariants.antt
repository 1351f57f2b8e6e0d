use Rattle.gj_perturb.specs.Lanes.{AreLeast, IsInRow}
use Rattle.gj_perturb.proofs.lanes.least_in_row.Given as goal

abbrev pub invariant-loop-j : goal.invariant-loop-j
invariant-loop-j l = AreLeast l.lanes l.n (IsInRow l.i l.j) l.any l.beside_zero
