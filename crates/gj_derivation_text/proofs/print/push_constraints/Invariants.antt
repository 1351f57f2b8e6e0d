use Rattle.std.proofs.Common.{drop}
use Rattle.gj_problem.specs.declared.problem.Constraint.{Constraint}
use Rattle.gj_problem_text.specs.PrintedProblem.{constraint_told, printed}
use Rattle.gj_derivation_text.proofs.PrintedPairs.{ArePairs}
use Rattle.gj_derivation_text.proofs.print.push_constraints.Given as goal

abbrev pub invariant-loop-i : goal.invariant-loop-i
invariant-loop-i l =
    ArePairs (λ name (c : Constraint). printed (constraint_told l.columns name c))
    l.initial.out.items l.names l.constraints l.out.items (drop l.i l.names)
    (drop l.i l.constraints)
