use Rattle.gj_forms.specs.Parts.{IsFirstFaultIn}
use Rattle.gj_derivation_text.specs.DerivationInputs.{draft_input}
use Rattle.gj_top.specs.Derive.{RefusesDrafts}
use Rattle.gj_top.proofs.Refusals.{refused_at}
use Rattle.gj_top.proofs.derive.drafts_of.Goals as goal

pub returns-in-Err-Refused-clause-found : goal.returns-in-Err-Refused-clause-found
returns-in-Err-Refused-clause-found c =
    refused_at (IsFirstFaultIn draft_input c.args.input.now) RefusesDrafts c.args.input.now
    c.in-Err-Refused.at_line
    c.in-Err-Refused.reason c.refused.result
    (rw c.in-Err-Refused.field-0-is at c.in-Err-Refused.ensures.refused)
    (λ text h. h) c.refused.ensures
