use Rattle.gj_limit_proof.specs.FirstFault.{IsFirstFaultOfLimitProof}
use Rattle.gj_top.specs.Forms.{RefusesLimitProofText}
use Rattle.gj_top.proofs.Refusals.{refused_at}
use Rattle.gj_top.proofs.forms.limit_proof_of.Goals as goal

pub returns-in-Err-Refused : goal.returns-in-Err-Refused
returns-in-Err-Refused c =
    refused_at (IsFirstFaultOfLimitProof c.args.input.now) RefusesLimitProofText c.args.input.now
    c.in-Err-Refused.at_line c.in-Err-Refused.reason
    c.refused.result (rw c.in-Err-Refused.field-0-is at c.in-Err-Refused.ensures.refused)
    (λ text h. h) c.refused.ensures
