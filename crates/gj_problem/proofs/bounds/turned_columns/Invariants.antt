use Rattle.std.proofs.Common.{take}
use Rattle.gj_problem.specs.Aggregates.{held}
use Rattle.gj_problem.specs.Steps.{AreTurned}
use Rattle.gj_problem.specs.WideRows.{AreWideTurns}
use Rattle.gj_problem.proofs.bounds.turned_columns.Given as goal

abbrev pub invariant-loop-j : goal.invariant-loop-j
invariant-loop-j l = record {
  turned : AreTurned (take l.j (held 0 l.columns l.coefficients l.at_upper)) l.fn.right
      l.bounds.pieces.items l.bounds.right;
  narrow : AreWideTurns (take l.j (held 0 l.columns l.coefficients l.at_upper)) l.fn.right → ⊥;
}
