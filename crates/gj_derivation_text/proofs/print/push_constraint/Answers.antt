use Rattle.std.proofs.Common.{List, ◌++◌, flat_map, ap, ◌∙◌}
use Rattle.gj_forms.specs.LineForms.{line_of}
use Rattle.gj_problem.specs.declared.problem.Entry.{Entry}
use Rattle.gj_problem_text.specs.PrintedProblem.{entry_told}
use Rattle.gj_problem_text.specs.ProblemLines.{problem_form}
use Rattle.gj_derivation_text.proofs.PrintedSteps.{two, constraint_is}
use Rattle.gj_derivation_text.proofs.print.push_constraint.Goals as goal

pub returns : goal.returns
returns c =
    let line = λ (e : Entry). line_of problem_form (entry_told c.args.columns.now e) in
    two _ _ _ _ _ _ c.in_ok-push_head.ensures
    (c.in_ok-push_entries.ensures
    ∙ ap (λ (es : List Entry). c.push_head.new.out.items ++ flat_map line es)
    c.as_slice.ensures)
    (constraint_is c.args.columns.now c.args.name.now c.args.constraint.now)
