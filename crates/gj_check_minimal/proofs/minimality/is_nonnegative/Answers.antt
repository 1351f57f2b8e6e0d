use Rattle.std.proofs.Common.{◌↔◌, IsTrue, subst}
use Rattle.gj_check_minimal.specs.Numerators.{HasNoNegative}
use Rattle.gj_check_minimal.proofs.TestsInTurn.{one_fails}
use Rattle.gj_check_minimal.proofs.NumeratorTests.{signs_of_lists, values_small, rights_small, lefts_small}
use Rattle.gj_check_minimal.proofs.minimality.is_nonnegative.Goals as goal

pub has_no_negative-requires : goal.has_no_negative-requires
has_no_negative-requires c =
    values_small _ _ c.value_numerators.ensures.limits c.value_numerators.ensures.value

pub has_no_negative-requires-2 : goal.has_no_negative-requires-2
has_no_negative-requires-2 c =
    rights_small _ _ c.right_numerators.ensures.limits c.right_numerators.ensures.value

pub has_no_negative-requires-3 : goal.has_no_negative-requires-3
has_no_negative-requires-3 c =
    lefts_small _ _ c.left_numerators.ensures.limits c.left_numerators.ensures.value

pub returns-then-not-has_no_negative : goal.returns-then-not-has_no_negative
returns-then-not-has_no_negative c =
    let f = c.args.shape.now in
    let values = subst (λ xs. IsTrue c.has_no_negative.result ↔ HasNoNegative xs)
    c.value_numerators.ensures.value c.has_no_negative.ensures in
    one_fails _ _ _ c.if-not-has_no_negative.true values
    (λ all. ((signs_of_lists f c.value_numerators.ensures.limits).1 all).0)

pub returns-then-not-has_no_negative-2 : goal.returns-then-not-has_no_negative-2
returns-then-not-has_no_negative-2 c =
    let f = c.args.shape.now in
    let rights = subst (λ xs. IsTrue c.has_no_negative-2.result ↔ HasNoNegative xs)
    c.right_numerators.ensures.value c.has_no_negative-2.ensures in
    one_fails _ _ _ c.if-not-has_no_negative-2.true rights
    (λ all. ((signs_of_lists f c.value_numerators.ensures.limits).1 all).1)

pub returns : goal.returns
returns c =
    let f = c.args.shape.now in
    let lists = signs_of_lists f c.value_numerators.ensures.limits in
    let values = subst (λ xs. IsTrue c.has_no_negative.result ↔ HasNoNegative xs)
    c.value_numerators.ensures.value c.has_no_negative.ensures in
    let rights = subst (λ xs. IsTrue c.has_no_negative-2.result ↔ HasNoNegative xs)
    c.right_numerators.ensures.value c.has_no_negative-2.ensures in
    let lefts = subst (λ xs. IsTrue c.has_no_negative-3.result ↔ HasNoNegative xs)
    c.left_numerators.ensures.value c.has_no_negative-3.ensures in (
      λ t. lists.0 (
        values.0 c.if-not-has_no_negative.false,
        rights.0
            c.if-not-has_no_negative-2.false,
        lefts.0 t,
      ),
      λ all. lefts.1 (lists.1 all).2,
    )
