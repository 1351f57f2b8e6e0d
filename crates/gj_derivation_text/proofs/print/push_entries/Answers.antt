use Rattle.gj_forms.specs.LineForms.{line_of}
use Rattle.gj_problem_text.proofs.PrintedItems.{one_printed, all_printed}
use Rattle.gj_problem_text.specs.PrintedProblem.{entry_told}
use Rattle.gj_problem_text.specs.ProblemLines.{problem_form}
use Rattle.gj_derivation_text.proofs.print.push_entries.Goals as goal

pub loop-entry-preserved : goal.loop-entry-preserved
loop-entry-preserved c =
    one_printed (λ x. line_of problem_form (entry_told c.args.columns.now x)) _ _ _
    c.args.entries.now c.loop-entry.entry-index c.entry-item.result
    c.loop-entry-test.true c.entry-item.is c.loop-entry.invariant c.in_ok-push_entry.ensures

pub returns : goal.returns
returns c =
    all_printed (λ x. line_of problem_form (entry_told c.args.columns.now x)) _ _ c.args.entries.now
    c.loop-entry.entry-index c.loop-entry-test.false
    c.loop-entry.invariant
