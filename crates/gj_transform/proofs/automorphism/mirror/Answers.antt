use Rattle.std.proofs.Common.{◌≡◌, ◌+◌, ◌-◌, unsigned_abs, to_z, of_z, refl, sym, ap, ap₂, subst, ◌∙◌, rules, arith}
use Rattle.std.proofs.lemmas.Int.{to_z-of_z}
use Rattle.gj_shape.specs.FunctionData.{IsWithinBounds}
use Rattle.gj_transform.specs.Transforms.{IsMirrorOf}
use Rattle.gj_transform.proofs.AtFractions.{mirror_values}
use Rattle.gj_transform.proofs.MadeFunctions.{AreTaken, function_as, taken_as}
use Rattle.gj_transform.proofs.MadeMirror.{exchanged, mirror_made, mirror_within}
use Rattle.gj_transform.proofs.MirrorTables.{mirror_back, mirror_minimal, mirror_extreme}
use Rattle.gj_transform.proofs.automorphism.mirror.Goals as goal
use mir.Syntax.{w128}

pub returns-clause-mirror : goal.returns-clause-mirror
returns-clause-mirror c =
    let f = c.args.shape.now in
    let limits = c.order-order.ensures.limits in
    let low = limits.order_low in
    let order = c.order-order.ensures.value in
    let scale : unsigned_abs (to_z w128 (of_z w128 c.common_denominator.result)) ≡ f.scale =
    ap unsigned_abs (to_z-of_z w128 _ (search rules) ∙ c.common_denominator.ensures.value) in
    let place = ap₂ (λ q k. q - k) order c.place.ensures.value in
    let backwards = c.order-order.result - 1 in
    let one : backwards + 1 ≡ f.order = omega arith in
    let are : AreTaken (exchanged f) f.order backwards c.in_ok-right.right.items
    c.in_ok-value.value.items c.in_ok-left.left.items = record {
      left_is = taken_as _ _ _ _ backwards _ c.right_numerators.ensures.value order
          c.in_ok-right.ensures;
      value_is = taken_as _ _ _ _ backwards _ c.value_numerators.ensures.value order
          c.in_ok-value.ensures;
      right_is = taken_as _ _ _ _ backwards _ c.left_numerators.ensures.value order
          c.in_ok-left.ensures;
    } in
    subst (IsMirrorOf f)
    (sym (c.from_numerators.ensures ∙ function_as order place scale refl refl refl))
    (mirror_made f backwards _ _ _ limits one are)

pub from_numerators-requires : goal.from_numerators-requires
from_numerators-requires c =
    let f = c.args.shape.now in
    let limits = c.order-order.ensures.limits in
    let low = limits.order_low in
    let order = c.order-order.ensures.value in
    let scale : unsigned_abs (to_z w128 (of_z w128 c.common_denominator.result)) ≡ f.scale =
    ap unsigned_abs (to_z-of_z w128 _ (search rules) ∙ c.common_denominator.ensures.value) in
    let place = ap₂ (λ q k. q - k) order c.place.ensures.value in
    let backwards = c.order-order.result - 1 in
    let one : backwards + 1 ≡ f.order = omega arith in
    let are : AreTaken (exchanged f) f.order backwards c.in_ok-right.right.items
    c.in_ok-value.value.items c.in_ok-left.left.items = record {
      left_is = taken_as _ _ _ _ backwards _ c.right_numerators.ensures.value order
          c.in_ok-right.ensures;
      value_is = taken_as _ _ _ _ backwards _ c.value_numerators.ensures.value order
          c.in_ok-value.ensures;
      right_is = taken_as _ _ _ _ backwards _ c.left_numerators.ensures.value order
          c.in_ok-left.ensures;
    } in
    subst IsWithinBounds (sym (function_as order place scale refl refl refl))
    (mirror_within f backwards _ _ _ limits one are)

pub returns-clause-values : goal.returns-clause-values
returns-clause-values c =
    let within : IsWithinBounds c.from_numerators.result = search rules in
    mirror_values c.args.shape.now c.from_numerators.result c.order-order.ensures.limits within
    (returns-clause-mirror c)

pub returns-clause-minimal : goal.returns-clause-minimal
returns-clause-minimal c =
    let f = c.args.shape.now in
    let g = c.from_numerators.result in
    let limits = c.order-order.ensures.limits in
    let within : IsWithinBounds g = search rules in
    let mirror = returns-clause-mirror c in
    (mirror_minimal f g limits mirror, mirror_minimal g f within (mirror_back f g mirror))

pub returns-clause-extreme : goal.returns-clause-extreme
returns-clause-extreme c =
    let f = c.args.shape.now in
    let g = c.from_numerators.result in
    let limits = c.order-order.ensures.limits in
    let within : IsWithinBounds g = search rules in
    let mirror = returns-clause-mirror c in (
      mirror_extreme f g limits within mirror,
      mirror_extreme g f within limits
          (mirror_back f g mirror),
    )
