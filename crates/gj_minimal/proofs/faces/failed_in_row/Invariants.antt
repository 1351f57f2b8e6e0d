use Rattle.gj_theory.specs.EarlierTests.{PassesSquare}
use Rattle.gj_minimal.specs.FirstFailure.{HoldsBelow}
use Rattle.gj_minimal.proofs.faces.failed_in_row.Given as goal

abbrev pub invariant-loop-b : goal.invariant-loop-b
invariant-loop-b g l = HoldsBelow (PassesSquare l.shape l.a) l.b
