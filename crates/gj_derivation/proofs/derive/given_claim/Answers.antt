use Rattle.std.proofs.Common.{◌≡◌, sym, subst, ◌∙◌}
use Rattle.std.specs.Option.{option_copied}
use Rattle.gj_problem.specs.declared.problem.Inequality.{Inequality}
use Rattle.gj_derivation.specs.declared.step.Verdict.{Verdict}
use Rattle.gj_derivation.specs.Checks.{IsVerdict}
use Rattle.gj_derivation.specs.Derivations.{Follows}
use Rattle.gj_derivation.proofs.CheckedSteps.{step_of}
use Rattle.gj_derivation.proofs.derive.given_claim.Goals as goal

pub returns-in_ok-from_slice-in-Accepted-clause-is :
    goal.returns-in_ok-from_slice-in-Accepted-clause-is
returns-in_ok-from_slice-in-Accepted-clause-is c =
    let f = option_copied c.args.function in
    let p = c.args.problem.now in
    let k = c.args.combination.now in
    let q = c.args.claim.now in
    let made : Inequality = record { entries = c.of.result; right = q.right } in
    let entries : c.of.result ≡ q.entries = c.of.ensures
    ∙ c.in_ok-from_slice-in-Accepted.ensures.items ∙ c.as_slice.ensures in
    let same : made ≡ q = λ i. record { entries = entries i; right = q.right } in
    let follows : Follows f p (step_of k q) = subst (λ (v : Verdict). IsVerdict f p (step_of k q) v)
    c.in-Accepted.is c.in_ok-verdict.ensures.is in
    (same, subst (λ (r : Inequality). Follows f p (step_of k r)) (sym same) follows)
