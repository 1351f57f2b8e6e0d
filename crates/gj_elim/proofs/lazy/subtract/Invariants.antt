use Rattle.std.proofs.Common.{pos}
use Rattle.gj_theory.proofs.CombinedRows.{AreCombined}
use Rattle.gj_elim.proofs.lazy.subtract.Given as goal

abbrev pub invariant-loop-i : goal.invariant-loop-i
invariant-loop-i l = AreCombined (pos 1) l.factor l.initial.row l.kept l.row l.i
