use Rattle.gj_extreme.specs.declared.faults.DecideFault.TheVariants.{NotContinuous, Wide}
use Rattle.gj_extreme.proofs.FaultCases.{cause_of}
use Rattle.gj_extreme.proofs.NotTooWide.{decided_not_wide}
use Rattle.gj_extreme.proofs.TwoSlopeDecisions.{continuous_no_jump}
use Rattle.gj_extreme.proofs.decision.decide_by_cover.Goals as goal

pub returns-clause-not_wide : goal.returns-clause-not_wide
returns-clause-not_wide c = λ wide.
    decided_not_wide c.args.shape.now c.in_ok-claim.claim c.order-order.ensures.limits
    c.requires.minimal c.in_ok-claim.ensures.1
    c.in_ok-claim.ensures.0 wide

pub returns-in_err-claim-clause-wide : goal.returns-in_err-claim-clause-wide
returns-in_err-claim-clause-wide c = λ e.
    (cause_of c.args.shape.now c.from_residual.result c.in_err-claim.field-0.0 Wide
    c.from_residual.ensures.0 c.from_residual.ensures.1 e
    c.in_err-claim.ensures).2

pub returns-in_err-claim-clause-no_jump : goal.returns-in_err-claim-clause-no_jump
returns-in_err-claim-clause-no_jump c = λ i e.
    let cause = cause_of c.args.shape.now c.from_residual.result c.in_err-claim.field-0.0
    (NotContinuous i) c.from_residual.ensures.0
    c.from_residual.ensures.1 e c.in_err-claim.ensures in
    continuous_no_jump c.args.shape.now i c.requires.continuous cause.1.jump
