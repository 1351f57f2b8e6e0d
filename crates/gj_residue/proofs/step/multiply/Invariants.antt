use Rattle.gj_residue.proofs.EachEntry.{AreDone, multiplied_entry}
use Rattle.gj_residue.proofs.step.multiply.Given as goal

abbrev pub invariant-loop-x : goal.invariant-loop-x
invariant-loop-x l = AreDone (multiplied_entry l.factor l.initial.row) l.initial.row l.row l.x-index
