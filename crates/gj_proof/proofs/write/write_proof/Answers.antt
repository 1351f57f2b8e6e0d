use Rattle.gj_proof.proofs.ProofWritten.{proof_written}
use Rattle.gj_proof.proofs.write.write_proof.Goals as goal

pub returns : goal.returns
returns c =
    proof_written _ _ _ _ _ _ c.claim-claim.ensures.claim c.claim-claim.ensures.has_text
    c.in_ok-text.ensures c.in_ok-push_subject.ensures
    c.in_ok-push_own_lines.ensures c.in_ok-extend_from_slice.ensures.items
