use Rattle.std.proofs.Common.{refl, length, ap, ◌∙◌, arith}
use Rattle.gj_check_minimal.proofs.TestsInTurn.{one_fails}
use Rattle.gj_check_minimal.proofs.ReadNumbers.{scale_read}
use Rattle.gj_check_minimal.proofs.NumeratorTests.{symmetry_of_lists, values_small, rights_small, lefts_small, opposite_read}
use Rattle.gj_check_minimal.proofs.minimality.is_symmetric.Goals as goal

pub are_opposite-requires : goal.are_opposite-requires
are_opposite-requires c =
    let f = c.args.shape.now in
    let l = c.place-place.ensures.limits in
    let len = ap length c.value_numerators-values.ensures.value ∙ l.value_length in
    let high = l.order_high in
    let place = l.place_high in
    let place_is = c.place-place.ensures.value in
    let small = values_small f _ l c.value_numerators-values.ensures.value in
    record { count = refl; few = omega arith; place = omega arith; numbers = small; others = small }

pub are_opposite-requires-2 : goal.are_opposite-requires-2
are_opposite-requires-2 c =
    let f = c.args.shape.now in
    let l = c.place-place.ensures.limits in
    let len = ap length c.right_numerators.ensures.value ∙ l.right_length in
    let left_len = ap length c.left_numerators.ensures.value ∙ l.left_length in
    let high = l.order_high in
    let place = l.place_high in
    let place_is = c.place-place.ensures.value in
    record {
      count = omega arith;
      few = omega arith;
      place = omega arith;
      numbers = rights_small f _ l c.right_numerators.ensures.value;
      others = lefts_small f _ l c.left_numerators.ensures.value;
    }

pub returns-then-not-are_opposite : goal.returns-then-not-are_opposite
returns-then-not-are_opposite c =
    let f = c.args.shape.now in
    let l = c.place-place.ensures.limits in
    let total = scale_read _ f.scale c.common_denominator-total.ensures.value l.scale_high in
    let is = c.value_numerators-values.ensures.value in
    let values = opposite_read _ _ _ _ _ f.value f.value f.place _ is is c.place-place.ensures.value
    total c.are_opposite.ensures in
    one_fails _ _ _ c.if-not-are_opposite.true values (λ all. ((symmetry_of_lists f l).1 all).0)

pub returns : goal.returns
returns c =
    let f = c.args.shape.now in
    let l = c.place-place.ensures.limits in
    let total = scale_read _ f.scale c.common_denominator-total.ensures.value l.scale_high in
    let is = c.value_numerators-values.ensures.value in
    let place = c.place-place.ensures.value in
    let values = opposite_read _ _ _ _ _ f.value f.value f.place _ is is place total
    c.are_opposite.ensures in
    let limits = opposite_read _ _ _ _ _ f.right f.left f.place _ c.right_numerators.ensures.value
    c.left_numerators.ensures.value place total
    c.are_opposite-2.ensures in
    let lists = symmetry_of_lists f l in (
      λ t. lists.0 (values.0 c.if-not-are_opposite.false, limits.0 t),
      λ all. limits.1 (lists.1 all).1,
    )
