use Rattle.gj_shape.specs.FirstViolation.{Passes}
use Rattle.gj_shape.specs.FirstViolation.Test.{symmetric_at}
use Rattle.gj_minimal.specs.FirstFailure.{HoldsBelow}
use Rattle.gj_minimal.proofs.symmetry.failed_mirror.Given as goal

abbrev pub invariant-loop-i : goal.invariant-loop-i
invariant-loop-i l = HoldsBelow (λ j. Passes l.shape (symmetric_at j)) l.i
