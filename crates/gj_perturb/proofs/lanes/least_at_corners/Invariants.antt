use Rattle.gj_perturb.specs.Lanes.{IsLeastAt, IsInRows}
use Rattle.gj_perturb.proofs.lanes.least_at_corners.Given as goal

abbrev pub invariant-loop-i : goal.invariant-loop-i
invariant-loop-i l = IsLeastAt l.lanes l.n (IsInRows l.n l.i) l.least
