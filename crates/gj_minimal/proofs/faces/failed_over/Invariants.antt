use Rattle.gj_minimal.specs.FirstFailure.{HoldsBelow}
use Rattle.gj_minimal.specs.Failures.{PassesRow}
use Rattle.gj_minimal.proofs.faces.failed_over.Given as goal

abbrev pub invariant-loop-a : goal.invariant-loop-a
invariant-loop-a g l = HoldsBelow (PassesRow l.shape) l.a
