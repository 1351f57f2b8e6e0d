use Rattle.gj_proof.specs.FirstFault.{IsFirstFaultOfProof}
use Rattle.gj_top.specs.Forms.{RefusesProofText}
use Rattle.gj_top.proofs.Refusals.{refused_at}
use Rattle.gj_top.proofs.forms.proof_of.Goals as goal

pub returns-in-Err-Refused : goal.returns-in-Err-Refused
returns-in-Err-Refused c =
    refused_at (IsFirstFaultOfProof c.args.input.now) RefusesProofText c.args.input.now
    c.in-Err-Refused.at_line c.in-Err-Refused.reason
    c.refused.result (rw c.in-Err-Refused.field-0-is at c.in-Err-Refused.ensures.refused)
    (λ text h. h) c.refused.ensures
