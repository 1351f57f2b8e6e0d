use Rattle.gj_shape.specs.FirstViolation.{Passes}
use Rattle.gj_shape.specs.FirstViolation.Test.{nonnegative_after, nonnegative_before}
use Rattle.gj_minimal.specs.FirstFailure.{HoldsBelow}
use Rattle.gj_minimal.proofs.signs.failed_interval_sign.Given as goal

abbrev pub invariant-loop-i : goal.invariant-loop-i
invariant-loop-i l =
    HoldsBelow (λ j. Passes l.shape (nonnegative_after j) × Passes l.shape (nonnegative_before j))
    l.i
