use Rattle.std.proofs.Common.{◌≡◌, unsigned_abs, to_z, of_z, ap, subst₂, ◌∙◌, rules, arith}
use Rattle.std.proofs.lemmas.Int.{ints, to_z-of_z}
use Rattle.gj_frac.specs.Fraction.{denominator}
use Rattle.gj_lemmas.specs.Divisors.{IsLcm}
use Rattle.gj_shape.proofs.BreakLines.{IsScaleOf, denominators_below, scale_from_lcm}
use Rattle.gj_shape.proofs.pieces.scale_of.Goals as goal
use mir.Syntax.{w128}

pub overflow_cast-den : goal.overflow_cast-den
overflow_cast-den c =
    let below = denominators_below c.args.x c.args.y c.requires in
    let e : to_z w128 (of_z w128 c.den.result) ≡ denominator c.args.x =
    to_z-of_z w128 c.den.result (search rules) ∙ c.den.ensures in
    let positive = c.args.x.lowest.positive in
    omega (arith, ints)

pub overflow_cast-den-2 : goal.overflow_cast-den-2
overflow_cast-den-2 c =
    let below = denominators_below c.args.x c.args.y c.requires in
    let e : to_z w128 (of_z w128 c.den-2.result) ≡ denominator c.args.y =
    to_z-of_z w128 c.den-2.result (search rules) ∙ c.den-2.ensures in
    let positive = c.args.y.lowest.positive in
    omega (arith, ints)

pub overflow_cast-result : goal.overflow_cast-result
overflow_cast-result c =
    let a : to_z w128 (of_z w128 c.den.result) ≡ denominator c.args.x =
    to_z-of_z w128 c.den.result (search rules) ∙ c.den.ensures in
    let b : to_z w128 (of_z w128 c.den-2.result) ≡ denominator c.args.y =
    to_z-of_z w128 c.den-2.result (search rules) ∙ c.den-2.ensures in
    let scale : IsScaleOf c.args.x c.args.y c.lcm.result = scale_from_lcm _ _ _ c.requires
    (subst₂ (λ p q. IsLcm p q c.lcm.result) (ap unsigned_abs a)
    (ap unsigned_abs b) c.lcm.ensures) in
    let high = scale.high in
    omega arith

pub returns : goal.returns
returns c =
    let a : to_z w128 (of_z w128 c.den.result) ≡ denominator c.args.x =
    to_z-of_z w128 c.den.result (search rules) ∙ c.den.ensures in
    let b : to_z w128 (of_z w128 c.den-2.result) ≡ denominator c.args.y =
    to_z-of_z w128 c.den-2.result (search rules) ∙ c.den-2.ensures in
    let scale : IsScaleOf c.args.x c.args.y c.lcm.result = scale_from_lcm _ _ _ c.requires
    (subst₂ (λ p q. IsLcm p q c.lcm.result) (ap unsigned_abs a)
    (ap unsigned_abs b) c.lcm.ensures) in
    record { low = scale.low; high = scale.high; first = scale.first; second = scale.second }
