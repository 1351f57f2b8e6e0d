use Rattle.std.proofs.Common.{ℕ, List, ◌++◌, codes, refl, ap, ◌∙◌}
use Rattle.gj_forms.specs.LineForms.{line_of}
use Rattle.gj_function_lines.specs.FunctionLines.{line}
use Rattle.gj_problem.specs.declared.problem.Column.{Column}
use Rattle.gj_problem.specs.declared.problem.Constraint.{Constraint}
use Rattle.gj_problem_text.specs.PrintedProblem.{column_told, constraint_told, printed}
use Rattle.gj_problem_text.specs.ProblemLines.{problem_form}
use Rattle.gj_derivation_text.specs.PrintedDerivation.{each_pair}
use Rattle.gj_derivation_text.proofs.PrintedPairs.{problem_is}
use Rattle.gj_derivation_text.proofs.PrintedSteps.{front_is}
use Rattle.gj_derivation_text.proofs.print.push_front.Goals as goal

pub returns : goal.returns
returns c =
    let (text, has, pushed) = c.in_ok-push_function.ensures in
    let names = c.args.columns.now in
    let column = λ (name : List ℕ) (d : Column). line_of problem_form (column_told name d) in
    let constraint = λ (name : List ℕ) (d : Constraint). printed (constraint_told names name d) in (
      _,
      (text, has, refl),
      front_is _ _ _ _ _ text (line (codes "gj-derivation 1")) _ _ _ pushed
          c.in_ok-extend_from_slice.ensures.items
          (c.in_ok-push_columns.ensures
          ∙ ap (λ (ds : List Column). c.extend_from_slice.new.self.items
          ++ each_pair column names ds) c.as_slice.ensures)
          (c.in_ok-push_constraints.ensures
          ∙ ap (λ (ds : List Constraint). c.push_columns.new.out.items
          ++ each_pair constraint c.args.constraints.now ds) c.as_slice-2.ensures)
          (problem_is names c.args.constraints.now c.args.problem.now),
    )
