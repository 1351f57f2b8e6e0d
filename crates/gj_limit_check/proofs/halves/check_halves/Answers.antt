use Rattle.std.proofs.Common.{subst₂, sym}
use Rattle.gj_check_minimal.proofs.TestsInTurn.{denied}
use Rattle.gj_limit_proof.specs.declared.claim.LimitClaim.TheVariants.{NotExtreme}
use Rattle.gj_limit_check.specs.FirstFailure.{IsFirstLimitFailure}
use Rattle.gj_limit_check.proofs.LimitHalvesDemands.{halves_not_minimal, halves_fault, halves_meet}
use Rattle.gj_limit_check.proofs.halves.check_halves.Goals as goal

pub returns-then-not-is_minimal-clause-fault : goal.returns-then-not-is_minimal-clause-fault
returns-then-not-is_minimal-clause-fault c =
    halves_not_minimal c.args.shape.now c.args.halves.now
    (denied _ _ c.if-not-is_minimal.true c.is_minimal.ensures)

pub returns-in_default-clause-ok : goal.returns-in_default-clause-ok
returns-in_default-clause-ok c =
    halves_meet c.args.shape.now c.args.halves.now
    (c.is_minimal.ensures.0 c.if-not-is_minimal.false) c.in_default.ensures

pub returns-clause-fault : goal.returns-clause-fault
returns-clause-fault c =
    let f = c.args.shape.now in
    let h = c.args.halves.now in
    subst₂ (IsFirstLimitFailure (NotExtreme f h)) (sym c.line_of.ensures) (sym c.rule_of.ensures)
    (halves_fault f h c.in-Some.failure (c.is_minimal.ensures.0 c.if-not-is_minimal.false)
    c.requires c.in-Some.ensures)
