use Rattle.std.proofs.Common.{List, ◌++◌, flat_map, ap, ◌∙◌}
use Rattle.gj_forms.specs.LineForms.{line_of}
use Rattle.gj_problem.specs.declared.problem.Entry.{Entry}
use Rattle.gj_derivation_text.specs.StepLines.{line_form}
use Rattle.gj_derivation_text.specs.PrintedDerivation.{term_told}
use Rattle.gj_derivation_text.proofs.PrintedSteps.{two, claim_is}
use Rattle.gj_derivation_text.proofs.print.push_claim.Goals as goal

pub returns : goal.returns
returns c =
    let term = λ (e : Entry). line_of line_form (term_told c.args.columns.now e) in
    two _ _ _ _ _ _ c.in_ok-push_line.ensures
    (c.in_ok-push_terms.ensures
    ∙ ap (λ (es : List Entry). c.push_line.new.out.items ++ flat_map term es)
    c.as_slice.ensures)
    (claim_is c.args.columns.now c.args.claim.now)
