use Rattle.gj_elim.proofs.LazyRows.{IsExtentTo}
use Rattle.gj_elim.proofs.extent.extent_of.Given as goal

abbrev pub invariant-loop-i : goal.invariant-loop-i
invariant-loop-i l = IsExtentTo l.extent.bound l.extent.end l.row l.i
