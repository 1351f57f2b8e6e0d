use Rattle.std.proofs.Common.{◌≡◌, ◌≤◌, ◌^◌, pos, ◌*ℤ◌, unsigned_abs, FitsSigned, to_z, of_z, ap, ap₂, subst₂, ◌∙◌, rules, arith}
use Rattle.std.proofs.lemmas.Int.{to_z-of_z, fits_signed_mul}
use Rattle.gj_frac.specs.Fraction.{numerator, denominator}
use Rattle.gj_shape.specs.Values.{IsValueAt}
use Rattle.gj_shape.proofs.ValueLemmas.{value_at_point}
use Rattle.gj_shape.proofs.shape.Shape.value_at.Goals as goal
use mir.Syntax.{w128}

pub returns-clause-value : goal.returns-clause-value
returns-clause-value c =
    let f = c.args.self.now in
    let n = numerator c.args.x in
    let few = c.order.ensures.limits.order_high in
    let size = c.requires.size in
    let fine = c.requires.fine in
    let high : unsigned_abs n ≤ 2 ^ 93 = omega arith in
    let fits : FitsSigned w128 (n *ℤ pos f.order) =
    fits_signed_mul w128 n (pos f.order) (2 ^ 93) 1000 high few (omega arith) in
    let num : to_z w128 (of_z w128 c.num.result) ≡ n = to_z-of_z w128 c.num.result (search rules)
    ∙ c.num.ensures in
    let order : to_z w128 (of_z w128 c.from.result) ≡ pos f.order =
    to_z-of_z w128 c.from.result (search rules) ∙ c.from.ensures ∙ ap pos c.order.ensures.value in
    let top : to_z w128 (of_z w128
    (to_z w128 (of_z w128 c.num.result) *ℤ to_z w128 (of_z w128 c.from.result)))
    ≡ n *ℤ pos f.order =
    ap₂ (λ x y. to_z w128 (of_z w128 (x *ℤ y))) num order ∙ to_z-of_z w128 _ fits in
    let bottom : to_z w128 (of_z w128 c.den.result) ≡ denominator c.args.x =
    to_z-of_z w128 c.den.result (search rules) ∙ c.den.ensures in
    subst₂ (λ a d. IsValueAt f a d c.value_on_grid-value.result) top
    (ap unsigned_abs bottom) c.value_on_grid-value.ensures

pub returns-clause-not_negative : goal.returns-clause-not_negative
returns-clause-not_negative c n d point =
    value_at_point c.args.self.now c.args.x c.value_on_grid-value.result n d point
    (returns-clause-value c)

pub returns-in-Some-clause-not_negative : goal.returns-in-Some-clause-not_negative
returns-in-Some-clause-not_negative c n d point =
    let small = c.of_small-small.result in
    value_at_point c.args.self.now c.args.x small n d point
    (c.in-Some.ensures.value small c.of_small-small.ensures)
