use Rattle.gj_forms.specs.Parts.{IsFirstFaultIn}
use Rattle.gj_derivation_text.specs.DerivationInputs.{derivation_input}
use Rattle.gj_top.specs.Derivation.{RefusesDerivation}
use Rattle.gj_top.proofs.Refusals.{refused_at}
use Rattle.gj_top.proofs.derivation.derivation_of.Goals as goal

pub returns-in-Err-Refused-clause-found : goal.returns-in-Err-Refused-clause-found
returns-in-Err-Refused-clause-found c =
    refused_at (IsFirstFaultIn derivation_input c.args.input.now) RefusesDerivation c.args.input.now
    c.in-Err-Refused.at_line
    c.in-Err-Refused.reason c.refused.result
    (rw c.in-Err-Refused.field-0-is at c.in-Err-Refused.ensures.refused)
    (λ text h. h) c.refused.ensures
