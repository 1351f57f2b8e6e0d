use Rattle.gj_proof.specs.ProofText.{IsProofText}
use Rattle.gj_top.specs.Minimal.{IsVerdict}
use Rattle.gj_top.proofs.OneReport.{told}
use Rattle.gj_top.proofs.Verdicts.{verdict_of_claim}
use Rattle.gj_top.proofs.minimal.reply.Goals as goal

pub returns : goal.returns
returns c =
    let f = c.in_ok-function_of.field-0 in
    let claim = c.minimality_proof-proof.result in
    record {
      thing = f;
      spelled = c.in_ok-function_of.ensures;
      replied = told c.args.json (IsProofText claim) (IsVerdict f)
          (λ text. verdict_of_claim f claim text c.minimality_proof-proof.ensures.claim)
          c.in_ok-proof_text.field-0.items c.in_ok-proof_text.ensures;
    }
