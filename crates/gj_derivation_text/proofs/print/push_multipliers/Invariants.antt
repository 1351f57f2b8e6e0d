use Rattle.std.proofs.Common.{drop}
use Rattle.gj_forms.specs.LineForms.{line_of}
use Rattle.gj_problem_text.proofs.PrintedItems.{ArePrinted}
use Rattle.gj_derivation_text.specs.StepLines.{line_form}
use Rattle.gj_derivation_text.specs.PrintedDerivation.{by_told}
use Rattle.gj_derivation_text.proofs.print.push_multipliers.Given as goal

abbrev pub invariant-loop-multiplier : goal.invariant-loop-multiplier
invariant-loop-multiplier l =
    ArePrinted (λ x. line_of line_form (by_told l.lines x)) l.initial.out.items l.multipliers
    l.out.items (drop l.multiplier-index l.multipliers)
