use Rattle.std.proofs.Common.{◌≡◌, ◌+◌, ◌-◌, ℕ, FitsSigned, w64, ap₂, ◌∙◌, rules}
use Rattle.gj_shape.specs.FunctionData.{at}
use Rattle.gj_minimal.proofs.Readings.{same_read, sum_bits}
use Rattle.gj_minimal.proofs.symmetry.is_interval_mirrored.Goals as goal

pub returns-then-right_numerator-left_numerator : goal.returns-then-right_numerator-left_numerator
returns-then-right_numerator-left_numerator c =
    let f = c.args.shape.now in
    let i = c.args.i in
    let x = c.right_numerator.result in
    let y = c.left_numerator.result in
    let s = c.scale.result in
    let fits : FitsSigned w64 c.scale.result = search rules in
    let start = same_read x y s c.right_numerator.ensures.small c.left_numerator.ensures.small fits
    c.if-right_numerator-left_numerator.true in
    let first = c.right_numerator.ensures.value in
    let second : c.left_numerator.result ≡ at c.args.shape.now.left (c.args.shape.now.place +
    (c.args.shape.now.order - c.args.i)) =
    c.left_numerator.ensures.value
    ∙ ap₂ (λ (k q : ℕ). at f.left (k + (q - i))) c.place.ensures.value c.order.ensures.value in
    let one = c.scale.ensures.value in
    let u = c.left_numerator-then-right_numerator-left_numerator.result in
    let v = c.right_numerator-then-right_numerator-left_numerator.result in
    let t = c.scale-then-right_numerator-left_numerator.result in
    let t_fits : FitsSigned w64 c.scale-then-right_numerator-left_numerator.result = search rules in
    let end = sum_bits u v t c.left_numerator-then-right_numerator-left_numerator.ensures.small
    c.right_numerator-then-right_numerator-left_numerator.ensures.small t_fits in
    let third = c.left_numerator-then-right_numerator-left_numerator.ensures.value in
    let fourth : c.right_numerator-then-right_numerator-left_numerator.result
    ≡ at c.args.shape.now.right
    (c.args.shape.now.place + (c.args.shape.now.order - (c.args.i + 1))) =
    c.right_numerator-then-right_numerator-left_numerator.ensures.value
    ∙ ap₂ (λ (k q : ℕ). at f.right (k + (q - (i + 1)))) c.place-2.ensures.value
    c.order-2.ensures.value in
    let also_one = c.scale-then-right_numerator-left_numerator.ensures.value in (
      λ e. let same = end.0 e in (cc, cc),
      λ p. end.1 (let same = p.1 in cc),
    )
