use Rattle.std.proofs.Common.{◌≡◌, ◌<◌, ◌^◌, unsigned_abs, to_z, of_z, refl, ap, subst, ◌∙◌, arith}
use Rattle.std.specs.Int.{int_max, int_min}
use Rattle.std.proofs.lemmas.Int.{ints}
use Rattle.gj_fill.proofs.Extremes.{AreExtremes, extremes_begun, extremes_more, greatest_are}
use Rattle.gj_fill.proofs.steps.greatest_steps.Goals as goal
use mir.Syntax.{w64}

pub loop-a-init : goal.loop-a-init
loop-a-init c =
    let first = c.rise_at-first.result in
    let same : to_z w64 (of_z w64 first) ≡ first = omega (arith, ints) in
    extremes_begun c.args.shape.now.value (to_z w64 (of_z w64 first))
    (same ∙ c.rise_at-first.ensures.value) (omega (arith, ints))

pub loop-a-preserved : goal.loop-a-preserved
loop-a-preserved c =
    let step = c.rise_at-step.result in
    let most = to_z w64 c.loop-a.most-bits in
    let least = to_z w64 c.loop-a.least-bits in
    let same : to_z w64 (of_z w64 step) ≡ step = omega (arith, ints) in
    let up : to_z w64 (of_z w64 c.max-most.result) ≡ c.max-most.result = omega (arith, ints) in
    let down : to_z w64 (of_z w64 c.min-least.result) ≡ c.min-least.result = omega (arith, ints) in
    extremes_more c.args.shape.now.value c.loop-a.a most least step
    (to_z w64 (of_z w64 c.max-most.result))
    (to_z w64 (of_z w64 c.min-least.result)) c.loop-a.invariant c.rise_at-step.ensures.value
    c.rise_at-step.ensures.small
    (up ∙ c.max-most.ensures.value ∙ ap (int_max most) same) (down ∙ c.min-least.ensures.value
    ∙ ap (int_min least) same)

pub returns : goal.returns
returns c =
    let f = c.args.shape.now in
    let limits = c.order-order.ensures.limits in
    let most = to_z w64 c.loop-a.most-bits in
    let least = to_z w64 c.loop-a.least-bits in
    let size : unsigned_abs least < 2 ^ 52 = c.loop-a.invariant.least_small in
    let some : 0 < f.order = omega (arith, limits.order_low) in
    greatest_are f.value f.order most least _ _ limits.value_length some
    (subst (λ n. AreExtremes f.value n most least) (let e : c.loop-a.a ≡ f.order = omega arith in
    e) c.loop-a.invariant)
    refl (omega (arith, ints))
