use Rattle.std.proofs.Common.{◌≡◌, ◌+ℤ◌, ◌*ℤ◌, to_z, of_z, ap₂, ◌∙◌, arith}
use Rattle.std.proofs.lemmas.Int.{ints}
use Rattle.gj_fill.proofs.fill_in.sum_of_products.Goals as goal
use mir.Syntax.{w64, w128}

pub returns-clause-value : goal.returns-clause-value
returns-clause-value c =
    let x : to_z w64 (of_z w64 c.args.x) ≡ c.args.x = omega (arith, ints) in
    let y : to_z w64 (of_z w64 c.args.y) ≡ c.args.y = omega (arith, ints) in
    let u : to_z w64 (of_z w64 c.args.u) ≡ c.args.u = omega (arith, ints) in
    let w : to_z w64 (of_z w64 c.args.w) ≡ c.args.w = omega (arith, ints) in
    let first = c.product.ensures.value ∙ ap₂ (λ a b. a *ℤ b) x y in
    let second = c.product-2.ensures.value ∙ ap₂ (λ a b. a *ℤ b) u w in
    let sum : to_z w128 (of_z w128
    (to_z w128 (of_z w128 c.product.result) +ℤ to_z w128 (of_z w128 c.product-2.result)))
    ≡ c.product.result +ℤ c.product-2.result = omega (arith, ints) in
    sum ∙ ap₂ (λ a b. a +ℤ b) first second
