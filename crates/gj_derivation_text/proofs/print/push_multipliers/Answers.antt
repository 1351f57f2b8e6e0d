use Rattle.gj_forms.specs.LineForms.{line_of}
use Rattle.gj_problem_text.proofs.PrintedItems.{one_printed, all_printed}
use Rattle.gj_derivation_text.specs.StepLines.{line_form}
use Rattle.gj_derivation_text.specs.PrintedDerivation.{by_told}
use Rattle.gj_derivation_text.proofs.print.push_multipliers.Goals as goal

pub loop-multiplier-preserved : goal.loop-multiplier-preserved
loop-multiplier-preserved c =
    one_printed (λ x. line_of line_form (by_told c.args.lines.now x)) _ _ _ c.args.multipliers.now
    c.loop-multiplier.multiplier-index c.multiplier-item.result
    c.loop-multiplier-test.true c.multiplier-item.is c.loop-multiplier.invariant
    c.in_ok-push_multiplier.ensures

pub returns : goal.returns
returns c =
    all_printed (λ x. line_of line_form (by_told c.args.lines.now x)) _ _ c.args.multipliers.now
    c.loop-multiplier.multiplier-index c.loop-multiplier-test.false
    c.loop-multiplier.invariant
