use Rattle.std.proofs.Common.{pos, ◌*ℤ◌, ap, ap₂, subst₂, ◌∙◌, refl, arith}
use Rattle.std.proofs.lemmas.Int.{ints}
use Rattle.gj_frac.specs.Fraction.{IsRatio}
use Rattle.gj_lemmas.proofs.Integers.{one_mul_z}
use Rattle.gj_rule.proofs.ClosedForm.{reads_as}
use Rattle.gj_mixed.proofs.SlopeParts.{slope_times}
use Rattle.gj_mixed.proofs.slopes.slope_to.Goals as goal

pub returns-clause-slope : goal.returns-clause-slope
returns-clause-slope c =
    let f = c.args.shape.now in
    let bounds = c.order.ensures.limits in
    let r = c.rise_to.result in
    let order = reads_as c.from.result (pos f.order) (c.from.ensures ∙ ap pos c.order.ensures.value)
    (omega (arith, ints, bounds.order_high)) in
    let rise = reads_as r r refl (omega (arith, ints, bounds.scale_high)) in
    let scale = reads_as c.common_denominator-scale.result
    (pos f.scale) c.common_denominator-scale.ensures.value
    (omega (arith, ints, bounds.scale_high)) in
    slope_times c.quotient.result f.order f.scale r bounds.order_high
    (omega (arith, bounds.scale_low)) bounds.scale_high c.rise_to.ensures.low
    c.rise_to.ensures.high
    (subst₂ (IsRatio c.quotient.result) (ap₂ (λ a b. a *ℤ b) order rise) (ap (λ z. pos 1 *ℤ z) scale
    ∙ one_mul_z (pos f.scale)) c.quotient.ensures)
