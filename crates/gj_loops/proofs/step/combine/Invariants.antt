use Rattle.gj_theory.proofs.CombinedRows.{AreCombined}
use Rattle.gj_loops.proofs.step.combine.Given as goal

abbrev pub invariant-loop-i : goal.invariant-loop-i
invariant-loop-i l = AreCombined l.u l.w l.initial.row l.kept l.row l.i
