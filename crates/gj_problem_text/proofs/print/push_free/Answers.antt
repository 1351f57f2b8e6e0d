use Rattle.std.proofs.Common.{ℕ, List, codes, ◌++◌, ap, ◌∙◌}
use Rattle.gj_forms.specs.LineForms.{line_of}
use Rattle.gj_problem_text.specs.CutText.{free_form}
use Rattle.gj_problem_text.proofs.PrintedLines.{three_parts}
use Rattle.gj_problem_text.proofs.print.push_free.Goals as goal

pub returns : goal.returns
returns c =
    three_parts (codes "skip free ") c.name_at.result.now _ _ _ _
    c.in_ok-extend_from_slice.ensures.items
    c.in_ok-extend_from_slice-2.ensures.items c.in_ok-push.ensures.items
    ∙ ap (λ (name : List ℕ). c.args.out.now.items ++ line_of free_form name) c.name_at.ensures
