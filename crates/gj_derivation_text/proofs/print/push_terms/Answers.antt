use Rattle.gj_forms.specs.LineForms.{line_of}
use Rattle.gj_problem_text.proofs.PrintedItems.{one_printed, all_printed}
use Rattle.gj_derivation_text.specs.StepLines.{line_form}
use Rattle.gj_derivation_text.specs.PrintedDerivation.{term_told}
use Rattle.gj_derivation_text.proofs.print.push_terms.Goals as goal

pub loop-entry-preserved : goal.loop-entry-preserved
loop-entry-preserved c =
    one_printed (λ x. line_of line_form (term_told c.args.columns.now x)) _ _ _ c.args.entries.now
    c.loop-entry.entry-index c.entry-item.result
    c.loop-entry-test.true c.entry-item.is c.loop-entry.invariant c.in_ok-push_term.ensures

pub returns : goal.returns
returns c =
    all_printed (λ x. line_of line_form (term_told c.args.columns.now x)) _ _ c.args.entries.now
    c.loop-entry.entry-index c.loop-entry-test.false
    c.loop-entry.invariant
