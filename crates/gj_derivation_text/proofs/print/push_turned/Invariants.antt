use Rattle.std.proofs.Common.{ℕ, drop}
use Rattle.gj_forms.specs.LineForms.{line_of}
use Rattle.gj_problem_text.proofs.PrintedItems.{ArePrinted}
use Rattle.gj_derivation_text.specs.StepLines.{line_form}
use Rattle.gj_derivation_text.specs.PrintedDerivation.{upper_told}
use Rattle.gj_derivation_text.proofs.print.push_turned.Given as goal

abbrev pub invariant-loop-column : goal.invariant-loop-column
invariant-loop-column l =
    ArePrinted (λ (j : ℕ). line_of line_form (upper_told l.columns j)) l.initial.out.items l.turned
    l.out.items (drop l.column-index l.turned)
