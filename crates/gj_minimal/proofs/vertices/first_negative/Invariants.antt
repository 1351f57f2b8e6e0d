use Rattle.gj_minimal.specs.FirstFailure.{HoldsBelow}
use Rattle.gj_theory.specs.EarlierTests.{PassesVertex}
use Rattle.gj_minimal.proofs.vertices.first_negative.Given as goal

abbrev pub invariant-loop-b : goal.invariant-loop-b
invariant-loop-b l = HoldsBelow (PassesVertex l.shape l.a) l.b
