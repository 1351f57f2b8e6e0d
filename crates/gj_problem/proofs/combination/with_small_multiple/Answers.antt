use Rattle.std.proofs.Common.{rules, ◌≡◌, ℤ, ◌+ℤ◌, ◌*ℤ◌, ◌≤◌, ◌^◌, unsigned_abs, ap₂, subst, ◌∙◌}
use Rattle.std.proofs.lemmas.Int.{to_z-of_z}
use Rattle.gj_frac.specs.Fraction.{IsRatio}
use Rattle.gj_problem.proofs.Combinations.{sum_with}
use Rattle.gj_problem.proofs.combination.with_small_multiple.Goals as goal
use mir.Syntax.{w128}

pub returns : goal.returns
returns c =
    let a = c.in_ok-value.value in
    let p = c.in_ok-product.product in
    let n = to_z-of_z w128 c.args.n c.ranges.n in
    let factor = to_z-of_z w128 c.args.factor c.ranges.factor in
    let value = to_z-of_z w128 a (search rules) in
    let product = to_z-of_z w128 p (search rules) in
    let ratio : IsRatio c.args.x a c.args.denominator =
    subst (λ (d : ℤ). IsRatio c.args.x a d) (to_z-of_z w128 c.args.denominator c.ranges.denominator)
    c.in_ok-value.ensures in
    let p_is : p ≡ c.args.factor *ℤ a = simp (factor, value) at c.in_ok-product.ensures.is in
    let small : unsigned_abs c.args.n ≤ 2 ^ 125 = simp n at c.is_small.ensures (search rules) in (
      a,
      ratio,
      sum_with c.args.n c.args.factor a p _
          (to_z-of_z w128 c.small_total.result (search rules) ∙ c.small_total.ensures
          ∙ ap₂ (λ x y. x +ℤ y) n product) p_is small c.in_ok-product.ensures.small,
    )
