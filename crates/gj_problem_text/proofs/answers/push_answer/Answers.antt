use Rattle.std.proofs.Common.{ℕ, List, ◌++◌, ap, ◌∙◌}
use Rattle.gj_problem_text.specs.CutText.{cut_lines}
use Rattle.gj_problem_text.proofs.answers.push_answer.Goals as goal

pub returns : goal.returns
returns c = (
  c.in_ok-cut.cut,
  c.in_ok-cut.ensures.is,
  c.in_ok-cut.ensures.holds,
  c.in_ok-push_cut.ensures
      ∙ ap (λ (names : List (List ℕ)). c.args.out.now.items ++ cut_lines names c.in_ok-cut.cut)
      c.as_slice.ensures,
)
