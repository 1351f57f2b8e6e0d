use Rattle.gj_perturb.specs.Lanes.{IsLeastAt, IsInRow}
use Rattle.gj_perturb.proofs.lanes.least_in_row_of_corners.Given as goal

abbrev pub invariant-loop-j : goal.invariant-loop-j
invariant-loop-j l = IsLeastAt l.lanes l.n (IsInRow l.i l.j) l.least
