use Rattle.gj_minimal.specs.FirstFailure.{HoldsBelow}
use Rattle.gj_minimal.specs.Failures.{IsNonnegativeIn}
use Rattle.gj_minimal.proofs.faces.first_negative.Given as goal

abbrev pub invariant-loop-corner : goal.invariant-loop-corner
invariant-loop-corner l = HoldsBelow (IsNonnegativeIn l.square l.kind) l.corner
