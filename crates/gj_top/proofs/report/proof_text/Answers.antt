use Rattle.gj_top.proofs.ProofBytes.{proof_bytes, proof_is_ended}
use Rattle.gj_top.proofs.report.proof_text.Goals as goal

pub report-requires-clause-bytes : goal.report-requires-clause-bytes
report-requires-clause-bytes c =
    rw c.as_slice.ensures.value
    (proof_bytes c.args.proof.now c.in_ok-written.written.items c.requires
    c.in_ok-written.ensures)

pub report-requires-clause-ended : goal.report-requires-clause-ended
report-requires-clause-ended c =
    rw c.as_slice.ensures.value
    (proof_is_ended c.args.proof.now c.in_ok-written.written.items c.in_ok-written.ensures)
