use Rattle.std.proofs.Common.{◌≡◌, ◌+◌, ◌*◌, ◌/◌, ◌≤◌, unsigned_abs, to_z, of_z, refl, sym, ap, ap₂, subst, ◌∙◌, rules, arith}
use Rattle.std.proofs.lemmas.Int.{to_z-of_z}
use Rattle.gj_shape.specs.FunctionData.{IsWithinBounds}
use Rattle.gj_shape.proofs.Refinements.{order_fits}
use Rattle.gj_transform.specs.Transforms.{IsTimesOf}
use Rattle.gj_transform.proofs.AtFractions.{times_values}
use Rattle.gj_transform.proofs.MadeFunctions.{AreTaken, function_as, taken_as}
use Rattle.gj_transform.proofs.MadeTimes.{times_made, times_within}
use Rattle.gj_transform.proofs.TimesTables.{times_minimal, minimal_of_times}
use Rattle.gj_transform.proofs.homomorphism.times.Goals as goal
use mir.Syntax.{w128}

pub returns-clause-limit : goal.returns-clause-limit
returns-clause-limit c =
    let f = c.args.shape.now in
    let limits = c.order.ensures.limits in
    let below : c.args.n ≤ 1000 / f.order =
    subst (λ q. c.args.n ≤ 1000 / q) c.order.ensures.value c.if-n-order.false in
    let fits = order_fits f.order f.place c.args.n (limits.order_low, limits.order_high)
    (limits.place_low, limits.place_high) c.requires.some below in
    (λ e. cc, λ wide. absurd (omega (arith, wide, fits.0.1)))

pub returns-clause-times : goal.returns-clause-times
returns-clause-times c =
    let f = c.args.shape.now in
    let n = c.args.n in
    let scale : unsigned_abs (to_z w128 (of_z w128 c.common_denominator.result)) ≡ f.scale =
    ap unsigned_abs (to_z-of_z w128 _ (search rules) ∙ c.common_denominator.ensures.value) in
    let count = ap (λ q. q * n) c.order-2.ensures.value in
    let place = ap₂ (λ k q. k + c.args.j * q) c.place.ensures.value c.order-3.ensures.value in
    let are : AreTaken f (f.order * n) 1 c.in_ok-left.left.items c.in_ok-value.value.items
    c.in_ok-right.right.items = record {
      left_is = taken_as _ _ _ _ 1 _ c.left_numerators.ensures.value count c.in_ok-left.ensures;
      value_is = taken_as _ _ _ _ 1 _ c.value_numerators.ensures.value count c.in_ok-value.ensures;
      right_is = taken_as _ _ _ _ 1 _ c.right_numerators.ensures.value count c.in_ok-right.ensures;
    } in
    subst (IsTimesOf f n c.args.j)
    (sym (c.from_numerators.ensures ∙ function_as count place scale refl refl refl))
    (times_made f n c.args.j _ _ _ c.order.ensures.limits c.requires.some are)

pub from_numerators-requires : goal.from_numerators-requires
from_numerators-requires c =
    let f = c.args.shape.now in
    let n = c.args.n in
    let limits = c.order.ensures.limits in
    let scale : unsigned_abs (to_z w128 (of_z w128 c.common_denominator.result)) ≡ f.scale =
    ap unsigned_abs (to_z-of_z w128 _ (search rules) ∙ c.common_denominator.ensures.value) in
    let count = ap (λ q. q * n) c.order-2.ensures.value in
    let place = ap₂ (λ k q. k + c.args.j * q) c.place.ensures.value c.order-3.ensures.value in
    let are : AreTaken f (f.order * n) 1 c.in_ok-left.left.items c.in_ok-value.value.items
    c.in_ok-right.right.items = record {
      left_is = taken_as _ _ _ _ 1 _ c.left_numerators.ensures.value count c.in_ok-left.ensures;
      value_is = taken_as _ _ _ _ 1 _ c.value_numerators.ensures.value count c.in_ok-value.ensures;
      right_is = taken_as _ _ _ _ 1 _ c.right_numerators.ensures.value count c.in_ok-right.ensures;
    } in
    let below : n ≤ 1000 / f.order =
    subst (λ q. n ≤ 1000 / q) c.order.ensures.value c.if-n-order.false in
    let fits = order_fits f.order f.place n (limits.order_low, limits.order_high)
    (limits.place_low, limits.place_high) c.requires.some below in
    subst IsWithinBounds (sym (function_as count place scale refl refl refl))
    (times_within f n c.args.j _ _ _ limits c.requires.below fits.0.1 are)

pub returns-clause-values : goal.returns-clause-values
returns-clause-values c =
    let within : IsWithinBounds c.from_numerators.result = search rules in
    times_values c.args.shape.now c.from_numerators.result c.args.n c.args.j c.order.ensures.limits
    within c.requires.some (returns-clause-times c)

pub returns-clause-minimal : goal.returns-clause-minimal
returns-clause-minimal c =
    let f = c.args.shape.now in
    let g = c.from_numerators.result in
    let limits = c.order.ensures.limits in
    let within : IsWithinBounds g = search rules in
    let times = returns-clause-times c in (
      times_minimal f g c.args.n c.args.j limits c.requires.some times,
      minimal_of_times f g c.args.n c.args.j limits within c.requires.some times,
    )
