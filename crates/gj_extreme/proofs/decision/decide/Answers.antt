use Rattle.std.proofs.Common.{sym, subst}
use Rattle.gj_theory.proofs.DecidingGrid.{four_times_decides}
use Rattle.gj_proof.specs.Meaning.{ClaimHolds}
use Rattle.gj_proof.specs.Rules.{MeetsRules}
use Rattle.gj_extreme.specs.Decision.{IsByTable, IsExtremeClaim}
use Rattle.gj_extreme.proofs.ClaimRules.{decided_by_table}
use Rattle.gj_extreme.proofs.DecidedHolds.{decided_holds}
use Rattle.gj_extreme.proofs.NotTooWide.{decided_not_wide}
use Rattle.gj_extreme.specs.declared.faults.DecideFault.TheVariants.{NotContinuous, Wide}
use Rattle.gj_extreme.proofs.FaultCases.{cause_of}
use Rattle.gj_extreme.proofs.FewComponents.{few_components}
use Rattle.gj_extreme.proofs.TwoSlopeDecisions.{two_slopes_decided, two_slopes_not_wide, continuous_no_jump, only_memory}
use Rattle.gj_extreme.proofs.decision.decide.Goals as goal

pub returns-in_err-claim-clause-not_continuous : goal.returns-in_err-claim-clause-not_continuous
returns-in_err-claim-clause-not_continuous c = λ i e.
    cause_of c.args.shape.now c.from_residual.result c.in_err-claim.field-0.0
    (NotContinuous i) c.from_residual.ensures.0
    c.from_residual.ensures.1 e c.in_err-claim.ensures.decision

pub returns-in_err-claim-clause-wide : goal.returns-in_err-claim-clause-wide
returns-in_err-claim-clause-wide c = λ e.
    cause_of c.args.shape.now c.from_residual.result c.in_err-claim.field-0.0 Wide
    c.from_residual.ensures.0 c.from_residual.ensures.1 e
    c.in_err-claim.ensures.decision

pub returns-clause-not_wide : goal.returns-clause-not_wide
returns-clause-not_wide c = λ minimal wide.
    decided_not_wide c.args.shape.now c.in_ok-claim.claim c.claim_of.ensures.limits minimal
    c.in_ok-claim.ensures.decision.1
    c.in_ok-claim.ensures.decision.0 wide

pub returns-clause-rules : goal.returns-clause-rules
returns-clause-rules c = subst MeetsRules (sym c.of.ensures.claim) c.in_ok-claim.ensures.rules

pub returns-clause-holds : goal.returns-clause-holds
returns-clause-holds c =
    subst ClaimHolds (sym c.of.ensures.claim)
    (decided_holds c.args.shape.now c.in_ok-claim.claim c.claim_of.ensures.limits
    c.in_ok-claim.ensures.decision.0)

pub returns-clause-by_table : goal.returns-clause-by_table
returns-clause-by_table c =
    subst (IsByTable c.args.shape.now) (sym c.of.ensures.claim)
    (decided_by_table c.args.shape.now c.in_ok-claim.claim c.claim_of.ensures.limits
    c.in_ok-claim.ensures.decision.0)

pub returns-in_err-claim-clause-few_components : goal.returns-in_err-claim-clause-few_components
returns-in_err-claim-clause-few_components c = λ lines component n covered few wide.
    few_components c.args.shape.now lines component n c.claim_of.ensures.limits covered few wide

pub returns-clause-few_components : goal.returns-clause-few_components
returns-clause-few_components c = λ lines component n covered few wide.
    few_components c.args.shape.now lines component n c.claim_of.ensures.limits covered few wide

pub returns-in_err-claim-clause-order_4q : goal.returns-in_err-claim-clause-order_4q
returns-in_err-claim-clause-order_4q c =
    λ continuous. four_times_decides c.args.shape.now c.claim_of.ensures.limits continuous

pub returns-clause-order_4q : goal.returns-clause-order_4q
returns-clause-order_4q c =
    λ continuous. four_times_decides c.args.shape.now c.claim_of.ensures.limits continuous

pub returns-in_err-claim-clause-two_slopes : goal.returns-in_err-claim-clause-two_slopes
returns-in_err-claim-clause-two_slopes c = λ minimal two.
    only_memory c.from_residual.result (IsExtremeClaim c.args.shape.now) c.from_residual.ensures.0
    (λ i e. continuous_no_jump c.args.shape.now i two.continuous
    (returns-in_err-claim-clause-not_continuous c i e).1.jump)
    (λ e. two_slopes_not_wide c.args.shape.now c.claim_of.ensures.limits minimal two
    (returns-in_err-claim-clause-wide c e).2)

pub returns-clause-two_slopes : goal.returns-clause-two_slopes
returns-clause-two_slopes c = λ minimal two.
    subst (IsExtremeClaim c.args.shape.now) (sym c.of.ensures.claim)
    (two_slopes_decided c.args.shape.now c.in_ok-claim.claim c.claim_of.ensures.limits minimal two
    c.in_ok-claim.ensures.decision.0)
