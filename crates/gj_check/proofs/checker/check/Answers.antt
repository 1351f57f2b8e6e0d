use Rattle.std.proofs.Common.{rules, ◌≡◌, ◌+◌, true, false, OnOk, IfErr, sym, subst, subst₂, ◌∙◌}
use Rattle.gj_proof.specs.declared.claim.Claim.{Claim}
use Rattle.gj_proof.specs.declared.claim.Claim.TheVariants.{Cut, Extreme, ExtremeByResidues, NotExtreme}
use Rattle.gj_proof.specs.Rules.{MeetsRules}
use Rattle.gj_check.specs.declared.rules.CheckRule.TheVariants.{Minimal, Point}
use Rattle.gj_check.specs.FirstFailure.{IsFirstFailure, IsCheckFaultOf}
use Rattle.gj_check.proofs.DemandsOfClaims.{minimal_fails, point_fails, accepted_unless}
use Rattle.gj_check.proofs.OwnLineNumbers.{behind_function}
use Rattle.gj_check.proofs.RulesGiveMeaning.{meaning_of_rules, accepted_holds}
use Rattle.gj_check.proofs.checker.check.Goals as goal

pub returns-then-not-is_minimal-clause-fault : goal.returns-then-not-is_minimal-clause-fault
returns-then-not-is_minimal-clause-fault c =
    let is = sym c.in-Minimal.is ∙ c.claim.ensures.claim in
    subst (λ (d : Claim). IsFirstFailure d 2 Minimal) is
    (minimal_fails c.in-Minimal.shape (λ h. let a : true ≡ false = sym (c.is_minimal.ensures.1 h)
    ∙ c.if-not-is_minimal.true in cc))

pub returns-then-not-is_shown-clause-fault : goal.returns-then-not-is_shown-clause-fault
returns-then-not-is_shown-clause-fault c =
    let is = sym c.in-NotMinimal.is ∙ c.claim.ensures.claim in
    let number = behind_function c.in-NotMinimal.shape _
    c.line_behind_function-line.ensures.value in
    subst (λ n. IsFirstFailure c.args.proof.now n Point) number
    (subst (λ (d : Claim). IsFirstFailure d (c.in-NotMinimal.shape.order + 5) Point) is
    (point_fails c.in-NotMinimal.shape c.in-NotMinimal.violation
    (λ h. let a : true ≡ false = sym (c.is_shown.ensures.1 h) ∙ c.if-not-is_shown.true in cc)))

pub returns-in-Cut-clause-only : goal.returns-in-Cut-clause-only
returns-in-Cut-clause-only c =
    let is : Cut c.in-Cut.rule c.in-Cut.rows ≡ c.args.proof.now = sym c.in-Cut.is
    ∙ c.claim.ensures.claim in
    accepted_unless c.args.proof.now c.check_cuts.result
    (subst (λ (d : Claim). IfErr c.check_cuts.result (IsCheckFaultOf d)) is
    (subst (λ rows. IfErr c.check_cuts.result (IsCheckFaultOf (Cut c.in-Cut.rule rows)))
    c.as_slice.ensures c.check_cuts.ensures.fault))

pub returns-in-Extreme-clause-ok : goal.returns-in-Extreme-clause-ok
returns-in-Extreme-clause-ok c =
    let is : Extreme c.in-Extreme.shape c.in-Extreme.lines c.in-Extreme.rows ≡ c.args.proof.now =
    sym c.in-Extreme.is ∙ c.claim.ensures.claim in
    subst (λ (d : Claim). OnOk c.check_extreme.result (MeetsRules d)) is
    (subst₂ (λ lines rows. OnOk c.check_extreme.result
    (MeetsRules (Extreme c.in-Extreme.shape lines rows)))
    c.as_slice-in-Extreme.ensures c.as_slice-in-Extreme-2.ensures c.check_extreme.ensures.ok)

pub returns-in-Extreme-clause-only : goal.returns-in-Extreme-clause-only
returns-in-Extreme-clause-only c =
    let is : Extreme c.in-Extreme.shape c.in-Extreme.lines c.in-Extreme.rows ≡ c.args.proof.now =
    sym c.in-Extreme.is ∙ c.claim.ensures.claim in
    accepted_unless c.args.proof.now c.check_extreme.result
    (subst (λ (d : Claim). IfErr c.check_extreme.result (IsCheckFaultOf d)) is
    (subst₂ (λ lines rows. IfErr c.check_extreme.result
    (IsCheckFaultOf (Extreme c.in-Extreme.shape lines rows)))
    c.as_slice-in-Extreme.ensures c.as_slice-in-Extreme-2.ensures c.check_extreme.ensures.fault))

pub returns-in-ExtremeByResidues-clause-ok : goal.returns-in-ExtremeByResidues-clause-ok
returns-in-ExtremeByResidues-clause-ok c =
    let is : ExtremeByResidues c.in-ExtremeByResidues.shape c.in-ExtremeByResidues.lines
    c.in-ExtremeByResidues.rows ≡ c.args.proof.now = sym c.in-ExtremeByResidues.is
    ∙ c.claim.ensures.claim in
    subst (λ (d : Claim). OnOk c.check_extreme-in-ExtremeByResidues.result (MeetsRules d)) is
    (subst₂ (λ lines rows. OnOk c.check_extreme-in-ExtremeByResidues.result
    (MeetsRules (ExtremeByResidues c.in-ExtremeByResidues.shape lines rows)))
    c.as_slice-in-ExtremeByResidues.ensures c.as_slice-in-ExtremeByResidues-2.ensures
    c.check_extreme-in-ExtremeByResidues.ensures.ok)

pub returns-in-ExtremeByResidues-clause-only : goal.returns-in-ExtremeByResidues-clause-only
returns-in-ExtremeByResidues-clause-only c =
    let is : ExtremeByResidues c.in-ExtremeByResidues.shape c.in-ExtremeByResidues.lines
    c.in-ExtremeByResidues.rows ≡ c.args.proof.now = sym c.in-ExtremeByResidues.is
    ∙ c.claim.ensures.claim in
    accepted_unless c.args.proof.now c.check_extreme-in-ExtremeByResidues.result
    (subst (λ (d : Claim). IfErr c.check_extreme-in-ExtremeByResidues.result (IsCheckFaultOf d)) is
    (subst₂ (λ lines rows. IfErr c.check_extreme-in-ExtremeByResidues.result
    (IsCheckFaultOf (ExtremeByResidues c.in-ExtremeByResidues.shape lines rows)))
    c.as_slice-in-ExtremeByResidues.ensures c.as_slice-in-ExtremeByResidues-2.ensures
    c.check_extreme-in-ExtremeByResidues.ensures.fault))

pub returns-in-NotExtreme-clause-only : goal.returns-in-NotExtreme-clause-only
returns-in-NotExtreme-clause-only c =
    let is : NotExtreme c.in-NotExtreme.shape c.in-NotExtreme.halves ≡ c.args.proof.now =
    sym c.in-NotExtreme.is ∙ c.claim.ensures.claim in
    accepted_unless c.args.proof.now c.check_halves.result
    (subst (λ (d : Claim). IfErr c.check_halves.result (IsCheckFaultOf d)) is
    c.check_halves.ensures.fault)

pub returns-else-not-is_minimal-clause-holds : goal.returns-else-not-is_minimal-clause-holds
returns-else-not-is_minimal-clause-holds c =
    λ b. meaning_of_rules c.args.proof.now b c.claim.ensures.has_text (search rules)

pub returns-else-not-is_shown-clause-holds : goal.returns-else-not-is_shown-clause-holds
returns-else-not-is_shown-clause-holds c =
    λ b. meaning_of_rules c.args.proof.now b c.claim.ensures.has_text (search rules)

pub returns-in-Cut-clause-holds : goal.returns-in-Cut-clause-holds
returns-in-Cut-clause-holds c = accepted_holds c.args.proof.now _ c.claim.ensures.has_text
    (search rules)

pub returns-in-Extreme-clause-holds : goal.returns-in-Extreme-clause-holds
returns-in-Extreme-clause-holds c = accepted_holds c.args.proof.now _ c.claim.ensures.has_text
    (returns-in-Extreme-clause-ok c)

pub returns-in-ExtremeByResidues-clause-holds : goal.returns-in-ExtremeByResidues-clause-holds
returns-in-ExtremeByResidues-clause-holds c =
    accepted_holds c.args.proof.now _ c.claim.ensures.has_text
    (returns-in-ExtremeByResidues-clause-ok c)

pub returns-in-NotExtreme-clause-holds : goal.returns-in-NotExtreme-clause-holds
returns-in-NotExtreme-clause-holds c = accepted_holds c.args.proof.now _ c.claim.ensures.has_text
    (search rules)
