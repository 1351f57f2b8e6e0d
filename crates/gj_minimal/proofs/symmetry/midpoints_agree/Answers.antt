use Rattle.std.proofs.Common.{◌≡◌, ◌+◌, ◌*◌, ◌-◌, ◌<◌, ◌^◌, ℕ, pos, ◌+ℤ◌, ◌*ℤ◌, unsigned_abs, ap, ap₂, sym, ◌∙◌, arith}
use Rattle.std.proofs.lemmas.Int.{ints}
use Rattle.gj_shape.specs.FunctionData.{at}
use Rattle.gj_minimal.proofs.Readings.{double_bits}
use Rattle.gj_minimal.proofs.Midpoints.{midpoints}
use Rattle.gj_minimal.proofs.symmetry.midpoints_agree.Goals as goal

pub returns : goal.returns
returns c =
    let f = c.args.shape.now in
    let i = c.args.i in
    let one = c.scale.ensures.value in
    let high = c.scale.ensures.limits.scale_high in
    let small : unsigned_abs c.scale.result < 2 ^ 51 = omega (arith, ints) in
    let test = double_bits c.right_numerator.result c.left_numerator.result
    c.right_numerator-2.result c.left_numerator-2.result c.scale.result
    c.right_numerator.ensures.small c.left_numerator.ensures.small c.right_numerator-2.ensures.small
    c.left_numerator-2.ensures.small small in
    let first = c.right_numerator.ensures.value in
    let second = c.left_numerator.ensures.value in
    let third : c.right_numerator-2.result ≡ at c.args.shape.now.right
    (c.args.shape.now.place + (c.args.shape.now.order - (c.args.i + 1))) =
    c.right_numerator-2.ensures.value
    ∙ ap₂ (λ (k q : ℕ). at f.right (k + (q - (i + 1)))) c.place-2.ensures.value
    c.order-2.ensures.value in
    let fourth : c.left_numerator-2.result ≡ at c.args.shape.now.left
    (c.args.shape.now.place + (c.args.shape.now.order - c.args.i)) =
    c.left_numerator-2.ensures.value
    ∙ ap₂ (λ (k q : ℕ). at f.left (k + (q - i))) c.place.ensures.value c.order.ensures.value
    in
    let total : c.right_numerator.result +ℤ c.left_numerator.result
    +ℤ (c.right_numerator-2.result +ℤ c.left_numerator-2.result)
    ≡ at c.args.shape.now.right c.args.i +ℤ at c.args.shape.now.left (c.args.i + 1)
    +ℤ (at c.args.shape.now.right
    (c.args.shape.now.place + (c.args.shape.now.order - (c.args.i + 1)))
    +ℤ at c.args.shape.now.left (c.args.shape.now.place + (c.args.shape.now.order - c.args.i))) =
    cc in
    let values = midpoints f i c.requires in
    let double : pos 2 *ℤ c.scale.result ≡ pos (c.args.shape.now.scale * 2) =
    ap (λ z. pos 2 *ℤ z) one
    ∙ omega (arith, ints) in (
      λ e. values ∙ sym total ∙ test.0 e ∙ double,
      λ e. test.1 (total ∙ sym values ∙ e ∙ sym double),
    )
