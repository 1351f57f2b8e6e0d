use Rattle.std.proofs.Common.{◌≡◌, unsigned_abs, to_z, of_z, arith}
use Rattle.std.proofs.lemmas.Int.{ints}
use Rattle.std.proofs.lemmas.Result.{IfOk-weaker}
use Rattle.serde_json.specs.View.{view}
use Rattle.gj_json.proofs.ShownRead.{value_from_parts}
use Rattle.gj_json.proofs.show.function_value.Goals as goal
use mir.Syntax.{w128}

pub returns-clause-value : goal.returns-clause-value
returns-clause-value c =
    let f = c.args.shape.now in
    let limits = c.order-order.ensures.limits in
    let scale : unsigned_abs (to_z w128 (of_z w128 c.common_denominator-scale.result)) ≡ f.scale =
    let is = c.common_denominator-scale.ensures.value in let high = limits.scale_high in
    omega (arith, ints) in
    IfOk-weaker c.object_of.result _ _
    (λ v h. value_from_parts f _ _ _ _ _ c.f.result (view c.in_ok-place.place)
    (view c.in_ok-left.left)
    (view c.in_ok-value.value) (view c.in_ok-right.right) (view v) c.order-order.ensures.value scale
    c.left_numerators.ensures.value c.value_numerators.ensures.value
    c.right_numerators.ensures.value c.f.ensures.value
    c.in_ok-place.ensures c.in_ok-left.ensures c.in_ok-value.ensures c.in_ok-right.ensures h)
    c.object_of.ensures
