use Rattle.gj_example.proofs.Said.{undecided_fault}
use Rattle.gj_example.proofs.verdict.checked_proof.Goals as goal

pub returns-in_err-proof-clause-not_continuous : goal.returns-in_err-proof-clause-not_continuous
returns-in_err-proof-clause-not_continuous c = λ i e.
    c.in_err-proof.ensures.not_continuous i
    (undecided_fault c.from_residual.result c.in_err-proof.field-0.0 _ c.from_residual.ensures.0
    c.from_residual.ensures.1 e)

pub returns-in_err-proof-clause-wide : goal.returns-in_err-proof-clause-wide
returns-in_err-proof-clause-wide c = λ e.
    c.in_err-proof.ensures.wide
    (undecided_fault c.from_residual.result c.in_err-proof.field-0.0 _ c.from_residual.ensures.0
    c.from_residual.ensures.1 e)
