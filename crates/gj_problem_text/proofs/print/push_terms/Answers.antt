use Rattle.gj_problem_text.specs.CutText.{cut_term_line}
use Rattle.gj_problem_text.proofs.PrintedItems.{one_printed, all_printed}
use Rattle.gj_problem_text.proofs.print.push_terms.Goals as goal

pub loop-entry-preserved : goal.loop-entry-preserved
loop-entry-preserved c =
    one_printed (cut_term_line c.args.names.now) _ _ _ c.args.entries.now c.loop-entry.entry-index
    c.entry-item.result c.loop-entry-test.true
    c.entry-item.is c.loop-entry.invariant c.in_ok-push_term.ensures

pub returns : goal.returns
returns c =
    all_printed (cut_term_line c.args.names.now) _ _ c.args.entries.now c.loop-entry.entry-index
    c.loop-entry-test.false c.loop-entry.invariant
