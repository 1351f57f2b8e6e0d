use Rattle.gj_problem_text.proofs.PrintedLines.{term_pushed}
use Rattle.gj_problem_text.proofs.print.push_term.Goals as goal

pub returns : goal.returns
returns c =
    term_pushed c.args.names.now c.args.entry _ _ _ _ _ _ _ c.in_ok-extend_from_slice.ensures.items
    c.in_ok-extend_from_slice-2.ensures.items c.name_at.ensures c.in_ok-push.ensures.items
    c.in_ok-print_frac.ensures.ok
    c.in_ok-push-2.ensures.items
