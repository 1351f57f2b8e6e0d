use Rattle.gj_minimal.specs.FirstFailure.{HoldsBelow}
use Rattle.gj_minimal.specs.Failures.{PassesVertexRow}
use Rattle.gj_minimal.proofs.vertices.failed_over.Given as goal

abbrev pub invariant-loop-a : goal.invariant-loop-a
invariant-loop-a g l = HoldsBelow (PassesVertexRow l.shape) l.a
