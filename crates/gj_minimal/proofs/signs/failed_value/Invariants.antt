use Rattle.gj_shape.specs.FirstViolation.{Passes}
use Rattle.gj_shape.specs.FirstViolation.Test.{nonnegative_at}
use Rattle.gj_minimal.specs.FirstFailure.{HoldsBelow}
use Rattle.gj_minimal.proofs.signs.failed_value.Given as goal

abbrev pub invariant-loop-i : goal.invariant-loop-i
invariant-loop-i l = HoldsBelow (λ j. Passes l.shape (nonnegative_at j)) l.i
