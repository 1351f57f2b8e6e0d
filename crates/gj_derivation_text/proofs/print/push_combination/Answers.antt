use Rattle.std.proofs.Common.{ℕ, List, ◌++◌, flat_map, ap, ◌∙◌}
use Rattle.gj_forms.specs.LineForms.{line_of}
use Rattle.gj_derivation.specs.declared.step.Multiplier.{Multiplier}
use Rattle.gj_derivation_text.specs.StepLines.{line_form}
use Rattle.gj_derivation_text.specs.PrintedDerivation.{by_told, upper_told}
use Rattle.gj_derivation_text.proofs.PrintedSteps.{three, combination_is}
use Rattle.gj_derivation_text.proofs.print.push_combination.Goals as goal

pub returns : goal.returns
returns c =
    let line = λ (m : Multiplier). line_of line_form (by_told c.args.lines.now m) in
    let turned = λ (j : ℕ). line_of line_form (upper_told c.args.columns.now j) in
    three _ _ _ _ _ _ _ _
    (c.in_ok-push_multipliers.ensures
    ∙ ap (λ (ms : List Multiplier). c.args.out.now.items ++ flat_map line ms)
    c.as_slice.ensures)
    (c.in_ok-push_turned.ensures
    ∙ ap (λ (js : List ℕ). c.push_multipliers.new.out.items ++ flat_map turned js)
    c.as_slice-2.ensures)
    c.in_ok-push_factor.ensures
    (combination_is c.args.columns.now c.args.lines.now c.args.combination.now)
