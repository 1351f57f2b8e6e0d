use Rattle.gj_residue.proofs.EachEntry.{AreDone, read_entry}
use Rattle.gj_residue.proofs.step.read.Given as goal

abbrev pub invariant-loop-i : goal.invariant-loop-i
invariant-loop-i l = AreDone (read_entry l.row) l.initial.out l.out l.i
