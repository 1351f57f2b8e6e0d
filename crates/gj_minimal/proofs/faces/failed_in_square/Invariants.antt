use Rattle.gj_minimal.specs.FirstFailure.{HoldsBelow}
use Rattle.gj_minimal.proofs.FailedFaces.{PassesKind}
use Rattle.gj_minimal.proofs.faces.failed_in_square.Given as goal

abbrev pub invariant-loop-kind : goal.invariant-loop-kind
invariant-loop-kind l = HoldsBelow (PassesKind l.shape l.a l.b) l.kind-index
