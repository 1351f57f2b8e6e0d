use Rattle.gj_extreme.proofs.ClaimRules.{decision_rules}
use Rattle.gj_extreme.proofs.DecidedRules.{decided_violation_rules}
use Rattle.gj_extreme.proofs.FaultCases.{memory_decision}
use Rattle.gj_extreme.proofs.decision.claim_of.Goals as goal

pub returns-clause-rules : goal.returns-clause-rules
returns-clause-rules c =
    decision_rules c.args.shape.now c.claim_by_cover.result c.in_default.ensures.limits
    c.in_default.ensures.minimal c.claim_by_cover.ensures

pub returns-in-Some-clause-rules : goal.returns-in-Some-clause-rules
returns-in-Some-clause-rules c =
    let points = c.in-Some.ensures.points in
    decided_violation_rules c.args.shape.now c.in_ok-copy.field-0 c.in-Some.violation points.0
    c.in-Some.ensures.limits points.2 points.3
    (c.in_ok-copy.ensures, c.in-Some.ensures.first)

pub returns-in_err-copy-clause-decision : goal.returns-in_err-copy-clause-decision
returns-in_err-copy-clause-decision c =
    memory_decision c.args.shape.now c.from_residual.result c.in_err-copy.field-0.0
    c.from_residual.ensures.0
    c.from_residual.ensures.1

pub returns-in_err-pairs-clause-decision : goal.returns-in_err-pairs-clause-decision
returns-in_err-pairs-clause-decision c =
    memory_decision c.args.shape.now c.from_residual-in_err-pairs.result c.in_err-pairs.field-0.0
    c.from_residual-in_err-pairs.ensures.0
    c.from_residual-in_err-pairs.ensures.1

pub returns-in_err-cover-clause-decision : goal.returns-in_err-cover-clause-decision
returns-in_err-cover-clause-decision c =
    memory_decision c.args.shape.now c.from_residual-in_err-cover.result c.in_err-cover.field-0.0
    c.from_residual-in_err-cover.ensures.0
    c.from_residual-in_err-cover.ensures.1
