use Rattle.std.proofs.Common.{codes}
use Rattle.gj_lex.specs.NumberText.{fraction_text}
use Rattle.gj_problem_text.proofs.PrintedLines.{three_parts}
use Rattle.gj_problem_text.proofs.print.push_right_side.Goals as goal

pub returns : goal.returns
returns c =
    three_parts (codes "cut ")
    (fraction_text c.args.right) _ _ _ _ c.in_ok-extend_from_slice.ensures.items
    c.in_ok-print_frac.ensures.ok
    c.in_ok-push.ensures.items
