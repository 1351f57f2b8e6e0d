use Rattle.std.proofs.Common.{◌≡◌, ◌+◌, ◌*◌, ◌/◌, pos, length, to_z, of_z, sym, ap, ap₂, subst, subst₂, ◌∙◌, rules}
use Rattle.std.proofs.lemmas.Int.{to_z-of_z}
use Rattle.std.proofs.lemmas.List.{length_push}
use Rattle.gj_frac.specs.Fraction.{IsRatio}
use Rattle.gj_shape.specs.Given.{AreOver}
use Rattle.gj_shape.specs.Refinement.{entry_or_value, refined}
use Rattle.gj_shape.proofs.GivenFractions.{are_over_push}
use Rattle.gj_shape.proofs.GridDenominators.{count_fits, index_below, steps_few, scale_low, scaled_fits, scaled_read, scaled_some, scaled_below, read_below}
use Rattle.gj_shape.proofs.shape.Shape.refined_list.Goals as goal
use mir.Syntax.{w128}

pub loop-i-preserved : goal.loop-i-preserved
loop-i-preserved c =
    let f = c.args.self.now in
    let xs = c.args.entries.now in
    let m = c.args.times in
    let i = c.loop-i.i in
    let entry : c.entry_or_value-numerator.result ≡ refined f xs m i =
    c.entry_or_value-numerator.ensures.value
    ∙ ap₂ (λ r n. entry_or_value f xs n (i / m) r) c.from-in-loop-i.ensures
    c.from-in-loop-i-2.ensures in
    let numerator : to_z w128 (of_z w128 c.entry_or_value-numerator.result) ≡ refined f xs m i =
    to_z-of_z w128 c.entry_or_value-numerator.result (search rules) ∙ entry in
    let limits = c.order.ensures.limits in
    let denominator = scaled_read c.common_denominator.result c.from.result f.scale m
    c.common_denominator.ensures.value c.from.ensures
    (scale_low f limits) (steps_few f.order m limits.order_low c.requires.few) in
    let is : IsRatio c.reduced.result (refined f xs m i) (pos (f.scale * m)) =
    subst₂ (λ a b. IsRatio c.reduced.result a b) numerator denominator c.reduced.ensures in
    let pushed = c.in_ok-push.ensures.items in
    record {
      count = ap length pushed ∙ length_push _ _ ∙ ap (λ n. n + 1) c.loop-i.invariant.count;
      fractions = subst (AreOver _ _) (sym pushed)
          (are_over_push (refined f xs m)
          (f.scale * m) _ c.reduced.result i c.loop-i.invariant.count
          c.loop-i.invariant.fractions is);
    }

pub overflow_mul-count : goal.overflow_mul-count
overflow_mul-count c =
    count_fits c.order.result c.args.self.now.order c.args.times c.order.ensures.value
    c.requires.few

pub overflow_mul-scale : goal.overflow_mul-scale
overflow_mul-scale c =
    let f = c.args.self.now in
    let limits = c.order.ensures.limits in
    scaled_fits c.common_denominator.result c.from.result f.scale c.args.times
    c.common_denominator.ensures.value c.from.ensures
    (scale_low f limits) (steps_few f.order c.args.times limits.order_low c.requires.few)

pub entry_or_value-numerator-requires-clause-index :
    goal.entry_or_value-numerator-requires-clause-index
entry_or_value-numerator-requires-clause-index c =
    index_below c.loop-i.i c.order.result c.args.self.now.order c.args.times c.order.ensures.value
    c.requires.some c.loop-i-test.true

pub reduced-requires-clause-zero : goal.reduced-requires-clause-zero
reduced-requires-clause-zero c =
    let f = c.args.self.now in
    let limits = c.order.ensures.limits in
    scaled_some c.common_denominator.result c.from.result f.scale c.args.times
    c.common_denominator.ensures.value c.from.ensures
    (scale_low f limits) (steps_few f.order c.args.times limits.order_low c.requires.few)
    limits.scale_low c.requires.some

pub reduced-requires-clause-num_fits : goal.reduced-requires-clause-num_fits
reduced-requires-clause-num_fits c =
    read_below c.entry_or_value-numerator.result c.entry_or_value-numerator.ensures.fits

pub reduced-requires-clause-den_fits : goal.reduced-requires-clause-den_fits
reduced-requires-clause-den_fits c =
    let f = c.args.self.now in
    let limits = c.order.ensures.limits in
    scaled_below c.common_denominator.result c.from.result f.scale c.args.times
    c.common_denominator.ensures.value c.from.ensures
    (scale_low f limits) (steps_few f.order c.args.times limits.order_low c.requires.few)
