use Rattle.std.proofs.Common.{ℕ, get_or}
use Rattle.std.proofs.lemmas.List.{get_or_default}
use Rattle.gj_forms.specs.LineForms.{line_of}
use Rattle.gj_problem_text.proofs.PrintedItems.{one_printed, all_printed}
use Rattle.gj_derivation_text.specs.StepLines.{line_form}
use Rattle.gj_derivation_text.specs.PrintedDerivation.{upper_told}
use Rattle.gj_derivation_text.proofs.print.push_turned.Goals as goal

pub loop-column-preserved : goal.loop-column-preserved
loop-column-preserved c =
    let turned = c.args.turned.now in
    let i = c.loop-column.column-index in
    one_printed (λ (j : ℕ). line_of line_form (upper_told c.args.columns.now j)) _ _ _ turned i
    (get_or turned i 0) c.loop-column-test.true
    (get_or_default turned i 0 (get_or turned i 0) c.loop-column-test.true) c.loop-column.invariant
    c.in_ok-push_upper.ensures

pub returns : goal.returns
returns c =
    all_printed (λ (j : ℕ). line_of line_form (upper_told c.args.columns.now j)) _ _
    c.args.turned.now c.loop-column.column-index
    c.loop-column-test.false c.loop-column.invariant
