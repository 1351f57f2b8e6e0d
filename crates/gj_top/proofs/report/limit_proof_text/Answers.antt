use Rattle.gj_top.proofs.LimitTexts.{limit_proof_bytes}
use Rattle.gj_top.proofs.report.limit_proof_text.Goals as goal
use Rattle.gj_limit_proof.proofs.PrintedBytes.{text_is_ended}

pub report-requires-clause-bytes : goal.report-requires-clause-bytes
report-requires-clause-bytes c =
    rw c.as_slice.ensures.value
    (limit_proof_bytes c.args.proof.now c.args.written.items c.requires.bounded
    c.requires.spelled)

pub report-requires-clause-ended : goal.report-requires-clause-ended
report-requires-clause-ended c =
    rw c.as_slice.ensures.value
    (text_is_ended c.args.proof.now c.args.written.items c.requires.spelled)
