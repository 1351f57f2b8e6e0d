use Rattle.std.proofs.Common.{◌≡◌, List}
use Rattle.gj_fields.specs.Rational.{Rational, rational, ◌-ℚ◌}
use Rattle.gj_problem.specs.declared.problem.Inequality.{Inequality}
use Rattle.gj_problem.specs.Problems.{surplus_at}
use Rattle.gj_problem.specs.Rows.{dot}
use Rattle.gj_problem.proofs.HeldInequalities.{if_some}
use Rattle.gj_problem.proofs.OneRow.{dot_none}
use Rattle.gj_derivation.proofs.OneBase.{right_of, coefficients_of}
use Rattle.gj_derivation.proofs.derive.claim_from.Goals as goal

pub returns-in-Some-clause-right : goal.returns-in-Some-clause-right
returns-in-Some-clause-right c =
    let cs = c.args.terms.items in
    let r = rational c.args.right in
    let surplus = if_some (λ (q : Inequality). (point : List Rational) →
    surplus_at point q ≡ dot cs point -ℚ r) c.in_ok-claim.field-0 c.in-Some.claim
    c.in-Some.is c.in_ok-claim.ensures.surplus in
    right_of c.in-Some.claim (dot cs) r (dot_none cs) surplus

pub returns-in-Some-clause-coefficients : goal.returns-in-Some-clause-coefficients
returns-in-Some-clause-coefficients c =
    let cs = c.args.terms.items in
    let r = rational c.args.right in
    let surplus = if_some (λ (q : Inequality). (point : List Rational) →
    surplus_at point q ≡ dot cs point -ℚ r) c.in_ok-claim.field-0 c.in-Some.claim
    c.in-Some.is c.in_ok-claim.ensures.surplus in
    coefficients_of c.in-Some.claim (dot cs) r (dot_none cs) surplus
