use Rattle.gj_theory.proofs.CombinedRows.{AreCombined}
use Rattle.gj_elim.proofs.lazy.scale_and_subtract.Given as goal

abbrev pub invariant-loop-i : goal.invariant-loop-i
invariant-loop-i l = AreCombined l.factors.row l.factors.kept l.initial.row l.kept l.row l.i
