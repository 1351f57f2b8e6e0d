use Rattle.std.proofs.Common.{drop}
use Rattle.gj_forms.specs.LineForms.{line_of}
use Rattle.gj_problem_text.proofs.PrintedItems.{ArePrinted}
use Rattle.gj_derivation_text.specs.StepLines.{line_form}
use Rattle.gj_derivation_text.specs.PrintedDerivation.{term_told}
use Rattle.gj_derivation_text.proofs.print.push_terms.Given as goal

abbrev pub invariant-loop-entry : goal.invariant-loop-entry
invariant-loop-entry l =
    ArePrinted (λ x. line_of line_form (term_told l.columns x)) l.initial.out.items l.entries
    l.out.items (drop l.entry-index l.entries)
