use Rattle.std.proofs.Common.{List, OnOk, sym, subst}
use Rattle.std.specs.Option.{option_copied}
use Rattle.gj_problem.specs.declared.problem.Entry.{Entry}
use Rattle.gj_derivation.specs.declared.draft.Claim.{Claim}
use Rattle.gj_derivation.specs.declared.step.Verdict.TheVariants.{Wide}
use Rattle.gj_derivation.specs.Derivations.{IsUsableFor}
use Rattle.gj_derivation.specs.Checks.{IsAgainstTerms}
use Rattle.gj_derivation.specs.Drafts.{IsAgainst}
use Rattle.gj_derivation.proofs.derive.filled.Goals as goal

pub returns-in-Terms-clause-wide : goal.returns-in-Terms-clause-wide
returns-in-Terms-clause-wide c = λ fault.
    let f = option_copied c.args.function in
    let p = c.args.problem.now in
    let k = c.args.combination.now in
    subst (λ (claim : Claim). IsAgainst f c.args.grid p k claim Wide) (sym c.in-Terms.is)
    (subst (λ (es : List Entry). IsAgainstTerms f p k es Wide) c.as_slice.ensures
    (c.claim_with.ensures.wide fault))

pub returns-in-Absent-clause-narrow : goal.returns-in-Absent-clause-narrow
returns-in-Absent-clause-narrow c =
    let f = option_copied c.args.function in
    let p = c.args.problem.now in
    let k = c.args.combination.now in
    subst (λ (claim : Claim). OnOk c.found_claim.result (IsUsableFor f k.rule →
    IsAgainst f c.args.grid p k claim Wide → ⊥)) (sym c.in-Absent.is) c.found_claim.ensures.narrow

pub returns-in-Terms-clause-narrow : goal.returns-in-Terms-clause-narrow
returns-in-Terms-clause-narrow c =
    let f = option_copied c.args.function in
    let p = c.args.problem.now in
    let k = c.args.combination.now in
    subst (λ (claim : Claim). OnOk c.claim_with.result (IsUsableFor f k.rule →
    IsAgainst f c.args.grid p k claim Wide → ⊥)) (sym c.in-Terms.is)
    (subst (λ (es : List Entry). OnOk c.claim_with.result (IsUsableFor f k.rule →
    IsAgainstTerms f p k es Wide → ⊥)) c.as_slice.ensures c.claim_with.ensures.narrow)

pub returns-in-Given-clause-narrow : goal.returns-in-Given-clause-narrow
returns-in-Given-clause-narrow c =
    let f = option_copied c.args.function in
    let p = c.args.problem.now in
    let k = c.args.combination.now in
    subst (λ (claim : Claim). OnOk c.given_claim.result (IsUsableFor f k.rule →
    IsAgainst f c.args.grid p k claim Wide → ⊥)) (sym c.in-Given.is) c.given_claim.ensures.narrow
