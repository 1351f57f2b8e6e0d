use Rattle.std.proofs.Common.{drop}
use Rattle.gj_forms.specs.LineForms.{line_of}
use Rattle.gj_problem.specs.declared.problem.Column.{Column}
use Rattle.gj_problem_text.specs.PrintedProblem.{column_told}
use Rattle.gj_problem_text.specs.ProblemLines.{problem_form}
use Rattle.gj_derivation_text.proofs.PrintedPairs.{ArePairs}
use Rattle.gj_derivation_text.proofs.print.push_columns.Given as goal

abbrev pub invariant-loop-j : goal.invariant-loop-j
invariant-loop-j l =
    ArePairs (λ name (c : Column). line_of problem_form (column_told name c)) l.initial.out.items
    l.names l.columns l.out.items (drop l.j l.names) (drop l.j l.columns)
