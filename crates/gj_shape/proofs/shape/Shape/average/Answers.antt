use Rattle.std.proofs.Common.{◌≡◌, length, unsigned_abs, to_z, of_z, ap, ◌∙◌, rules}
use Rattle.std.proofs.lemmas.Int.{to_z-of_z}
use Rattle.std.proofs.lemmas.Result.{IfOk-weaker, IfErr-weaker}
use Rattle.gj_shape.specs.Average.{AreHalfSums}
use Rattle.gj_shape.proofs.GivenFractions.{given_as, fault_as, too_fine_of}
use Rattle.gj_shape.proofs.Averages.{half_sums_as, half_sums_small, average_from_given}
use Rattle.gj_shape.proofs.shape.Shape.average.Goals as goal
use mir.Syntax.{w128}

pub returns-clause-average : goal.returns-clause-average
returns-clause-average c =
    let f = c.args.self.now in
    let g = c.args.other.now in
    let first = c.common_denominator-scale.ensures.limits in
    let second = c.common_denominator-other_scale.ensures.limits in
    let scale : unsigned_abs (to_z w128 (of_z w128 c.common_denominator-scale.result)) ≡ f.scale =
    ap unsigned_abs (to_z-of_z w128 _ (search rules) ∙ c.common_denominator-scale.ensures.value) in
    let other_scale : unsigned_abs (to_z w128 (of_z w128 c.common_denominator-other_scale.result))
    ≡ g.scale =
    ap unsigned_abs (to_z-of_z w128 _ (search rules)
    ∙ c.common_denominator-other_scale.ensures.value) in
    let are : AreHalfSums f g c.in_ok-left.left.items c.in_ok-value.value.items
    c.in_ok-right.right.items = record {
      lengths = (
        c.in_ok-left.ensures.length ∙ ap length c.left_numerators.ensures.value ∙ first.left_length,
        c.in_ok-value.ensures.length ∙ ap length c.value_numerators.ensures.value
            ∙ first.value_length,
        c.in_ok-right.ensures.length ∙ ap length c.right_numerators.ensures.value
            ∙ first.right_length,
      );
      left_is = half_sums_as f g _ _ _ _ _ _ _ scale other_scale c.left_numerators.ensures.value
          c.left_numerators-2.ensures.value c.in_ok-left.ensures.fractions;
      value_is = half_sums_as f g _ _ _ _ _ _ _ scale other_scale c.value_numerators.ensures.value
          c.value_numerators-2.ensures.value c.in_ok-value.ensures.fractions;
      right_is = half_sums_as f g _ _ _ _ _ _ _ scale other_scale c.right_numerators.ensures.value
          c.right_numerators-2.ensures.value c.in_ok-right.ensures.fractions;
    } in
    IfOk-weaker c.new.result _ _
    (λ h given. average_from_given f g h _ _ _ first second c.requires.order are
    (given_as _ _ _ _ _ _ _ _ _ _ h c.order.ensures.value c.place.ensures.value
    c.as_slice.ensures.value c.as_slice-2.ensures.value c.as_slice-3.ensures.value given))
    c.new.ensures.given

pub returns-clause-fault : goal.returns-clause-fault
returns-clause-fault c =
    let f = c.args.self.now in
    let g = c.args.other.now in
    let first = c.common_denominator-scale.ensures.limits in
    let second = c.common_denominator-other_scale.ensures.limits in
    let scale : unsigned_abs (to_z w128 (of_z w128 c.common_denominator-scale.result)) ≡ f.scale =
    ap unsigned_abs (to_z-of_z w128 _ (search rules) ∙ c.common_denominator-scale.ensures.value) in
    let other_scale : unsigned_abs (to_z w128 (of_z w128 c.common_denominator-other_scale.result))
    ≡ g.scale =
    ap unsigned_abs (to_z-of_z w128 _ (search rules)
    ∙ c.common_denominator-other_scale.ensures.value) in
    let are : AreHalfSums f g c.in_ok-left.left.items c.in_ok-value.value.items
    c.in_ok-right.right.items = record {
      lengths = (
        c.in_ok-left.ensures.length ∙ ap length c.left_numerators.ensures.value ∙ first.left_length,
        c.in_ok-value.ensures.length ∙ ap length c.value_numerators.ensures.value
            ∙ first.value_length,
        c.in_ok-right.ensures.length ∙ ap length c.right_numerators.ensures.value
            ∙ first.right_length,
      );
      left_is = half_sums_as f g _ _ _ _ _ _ _ scale other_scale c.left_numerators.ensures.value
          c.left_numerators-2.ensures.value c.in_ok-left.ensures.fractions;
      value_is = half_sums_as f g _ _ _ _ _ _ _ scale other_scale c.value_numerators.ensures.value
          c.value_numerators-2.ensures.value c.in_ok-value.ensures.fractions;
      right_is = half_sums_as f g _ _ _ _ _ _ _ scale other_scale c.right_numerators.ensures.value
          c.right_numerators-2.ensures.value c.in_ok-right.ensures.fractions;
    } in
    let small = half_sums_small f g _ _ _ first second are in
    IfErr-weaker c.new.result _ _
    (λ e fault. too_fine_of (AreHalfSums f g) f.order f.place _ _ _ e
    (first.order_low, first.order_high) (first.place_low, first.place_high)
    are.lengths small.0 small.1 small.2 are
    (fault_as _ _ _ _ _ _ _ _ _ _ e c.order.ensures.value c.place.ensures.value
    c.as_slice.ensures.value c.as_slice-2.ensures.value c.as_slice-3.ensures.value fault))
    c.new.ensures.fault
