use Rattle.gj_check_groups.proofs.ResidueRows.{AreDone, reduced_entry}
use Rattle.gj_check_groups.proofs.modulo.reduce_modulo.Given as goal

abbrev pub invariant-loop-i : goal.invariant-loop-i
invariant-loop-i l = AreDone (reduced_entry l.kept l.initial.row l.column) l.initial.row l.row l.i
