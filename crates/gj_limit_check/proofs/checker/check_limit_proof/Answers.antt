use Rattle.std.proofs.Common.{◌≡◌, Result, Ok, Err, OnOk, IfErr, sym, subst, subst₂, ◌∙◌}
use Rattle.gj_check.specs.declared.faults.CheckFault.{CheckFault}
use Rattle.gj_check.specs.declared.faults.CheckFault.TheVariants.{Rejected, Memory}
use Rattle.gj_limit_proof.specs.declared.claim.LimitClaim.{LimitClaim}
use Rattle.gj_limit_proof.specs.declared.claim.LimitClaim.TheVariants.{Extreme, NotExtreme}
use Rattle.gj_limit_proof.specs.LimitRules.{MeetsLimitRules}
use Rattle.gj_limit_check.specs.FirstFailure.{IsRejectionOf, IsLimitFaultOf}
use Rattle.gj_limit_check.proofs.FirstLimitDemand.{accepted_unless}
use Rattle.gj_limit_check.proofs.RulesGiveMeaning.{accepted_holds}
use Rattle.gj_limit_check.proofs.checker.check_limit_proof.Goals as goal

pub returns-in-Extreme-clause-ok : goal.returns-in-Extreme-clause-ok
returns-in-Extreme-clause-ok c =
    let e = c.in-Extreme in
    let is : Extreme e.numbers e.shape e.lines e.rows ≡ c.args.proof.now = sym e.is
    ∙ c.claim.ensures.claim in
    subst (λ (d : LimitClaim). OnOk c.check_extreme.result (MeetsLimitRules d)) is
    (subst₂ (λ lines rows. OnOk c.check_extreme.result
    (MeetsLimitRules (Extreme e.numbers e.shape lines rows)))
    c.as_slice.ensures c.as_slice-in-Extreme.ensures c.check_extreme.ensures.ok)

pub returns-in-Extreme-clause-holds : goal.returns-in-Extreme-clause-holds
returns-in-Extreme-clause-holds c = accepted_holds c.args.proof.now _ c.claim.ensures.has_text
    (returns-in-Extreme-clause-ok c)

pub returns-in-Extreme-clause-only : goal.returns-in-Extreme-clause-only
returns-in-Extreme-clause-only c =
    let e = c.in-Extreme in
    let is : Extreme e.numbers e.shape e.lines e.rows ≡ c.args.proof.now = sym e.is
    ∙ c.claim.ensures.claim in
    accepted_unless c.args.proof.now c.check_extreme.result
    (subst (λ (d : LimitClaim). IfErr c.check_extreme.result (IsLimitFaultOf d)) is
    (subst₂ (λ lines rows. IfErr c.check_extreme.result
    (IsLimitFaultOf (Extreme e.numbers e.shape lines rows)))
    c.as_slice.ensures c.as_slice-in-Extreme.ensures c.check_extreme.ensures.fault))

pub returns-in-NotExtreme-clause-holds : goal.returns-in-NotExtreme-clause-holds
returns-in-NotExtreme-clause-holds c =
    let is : NotExtreme c.in-NotExtreme.shape c.in-NotExtreme.halves ≡ c.args.proof.now =
    sym c.in-NotExtreme.is ∙ c.claim.ensures.claim in
    accepted_holds c.args.proof.now c.check_halves.result c.claim.ensures.has_text
    (subst (λ (d : LimitClaim). OnOk c.check_halves.result (MeetsLimitRules d)) is
    c.check_halves.ensures.ok)

-- a rejection is a fault
rejected : (c : LimitClaim) (r : Result (Unit {0}) CheckFault) → IfErr r (IsRejectionOf c) →
    IfErr r (IsLimitFaultOf c)
rejected c (Ok x) h = h
rejected c (Err (Rejected n rule)) h = h
rejected c (Err (Memory e)) h = absurd h

pub returns-in-NotExtreme-clause-only : goal.returns-in-NotExtreme-clause-only
returns-in-NotExtreme-clause-only c =
    let is : NotExtreme c.in-NotExtreme.shape c.in-NotExtreme.halves ≡ c.args.proof.now =
    sym c.in-NotExtreme.is ∙ c.claim.ensures.claim in
    accepted_unless c.args.proof.now c.check_halves.result
    (subst (λ (d : LimitClaim). IfErr c.check_halves.result (IsLimitFaultOf d)) is
    (rejected (NotExtreme c.in-NotExtreme.shape c.in-NotExtreme.halves) c.check_halves.result
    c.check_halves.ensures.fault))
