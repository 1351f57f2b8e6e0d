use Rattle.std.proofs.Common.{[], refl, subst}
use Rattle.std.proofs.lemmas.Result.{IfOk-weaker}
use Rattle.gj_check.specs.CutRows.{IsTermsOutcome}
use Rattle.gj_check.specs.CutRows.FailsRow.{at_limit}
use Rattle.gj_check.proofs.LimitsOfRows.{none_yet}
use Rattle.gj_check.proofs.RowOutcomes.{row_outcome}
use Rattle.gj_check.proofs.cut_rows.failure_in_row.Goals as goal

pub failure_in_terms-requires-clause-limit : goal.failure_in_terms-requires-clause-limit
failure_in_terms-requires-clause-limit c = (c.in-Some.ensures.within [] none_yet).0

pub failure_in_terms-requires-clause-common : goal.failure_in_terms-requires-clause-common
failure_in_terms-requires-clause-common c = (c.in-Some.ensures.within [] none_yet).1

pub returns-in-Some : goal.returns-in-Some
returns-in-Some c =
    IfOk-weaker c.failure_in_terms.result _ _
    (λ o h. row_outcome c.args.rule.now c.args.row.now c.in-Cut.basic c.in-Cut.right c.in-Cut.terms
    o c.in-Cut.is
    (c.if-not-meets_fraction.ensures.0 refl) (c.in-Some.ensures.within [] none_yet).0
    (subst (λ xs. IsTermsOutcome c.args.rule.now c.in-Cut.basic c.in-Cut.right xs o)
    c.as_slice.ensures h))
    c.failure_in_terms.ensures

pub returns-in-None : goal.returns-in-None
returns-in-None c =
    at_limit c.in-Cut.basic c.in-Cut.right c.in-Cut.terms c.in-Cut.is refl refl
    (c.if-not-meets_fraction.ensures.0 refl)
    (λ h. c.in-None.ensures.beyond [] none_yet h)
