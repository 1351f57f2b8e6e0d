use Rattle.std.proofs.Common.{sym, subst}
use Rattle.gj_limit_proof.specs.LimitMeaning.{LimitClaimHolds}
use Rattle.gj_limit_proof.specs.LimitRules.{MeetsLimitRules}
use Rattle.gj_limit_extreme.specs.Decision.{DeniesExtreme}
use Rattle.gj_limit_extreme.proofs.DecidedHolds.{decided_holds, decided_denies, decided_rules}
use Rattle.gj_limit_extreme.proofs.NotTooWide.{decided_not_wide}
use Rattle.gj_limit_extreme.proofs.decision.decide_limits.Goals as goal

pub returns-clause-rules : goal.returns-clause-rules
returns-clause-rules c =
    subst MeetsLimitRules (sym c.of.ensures.claim)
    (decided_rules c.args.shape.now c.in_ok-claim.claim c.order-order.ensures.limits
    c.in_ok-claim.ensures.0)

pub returns-clause-holds : goal.returns-clause-holds
returns-clause-holds c =
    subst LimitClaimHolds (sym c.of.ensures.claim)
    (decided_holds c.args.shape.now c.in_ok-claim.claim c.order-order.ensures.limits
    c.in_ok-claim.ensures.0)

pub returns-clause-not_extreme : goal.returns-clause-not_extreme
returns-clause-not_extreme c =
    subst (DeniesExtreme c.args.shape.now) (sym c.of.ensures.claim)
    (decided_denies c.args.shape.now c.in_ok-claim.claim c.order-order.ensures.limits
    c.in_ok-claim.ensures.0)

pub returns-clause-not_wide : goal.returns-clause-not_wide
returns-clause-not_wide c = λ wide.
    decided_not_wide c.args.shape.now c.in_ok-claim.claim c.order-order.ensures.limits
    c.in_ok-claim.ensures.1 c.in_ok-claim.ensures.0 wide
