use Rattle.std.proofs.Common.{◌≡◌, ◌-◌, ◌*◌, pos, ◌+ℤ◌, ◌*ℤ◌, w64, to_z, of_z, ap, ap₂, subst₂, ◌∙◌, rules, arith}
use Rattle.std.proofs.lemmas.Int.{ints, to_z-of_z}
use Rattle.gj_frac.specs.Fraction.{IsRatio}
use Rattle.gj_shape.proofs.pieces.on_line.Goals as goal
use mir.Syntax.{w128}

pub returns : goal.returns
returns c =
    let a = c.args in
    let sum : to_z w128 (of_z w128
    (to_z w128 (of_z w128 c.weighted.result) +ℤ to_z w128 (of_z w128 c.weighted-2.result)))
    ≡ c.weighted.result +ℤ c.weighted-2.result = omega (arith, ints) in
    let start : to_z w64 (of_z w64 a.start) ≡ a.start = to_z-of_z w64 a.start (search rules) in
    let end : to_z w64 (of_z w64 a.end) ≡ a.end = to_z-of_z w64 a.end (search rules) in
    let first : c.weighted.result ≡ pos (a.steps - a.i) *ℤ a.start =
    c.weighted.ensures.value ∙ ap₂ (λ m z. pos m *ℤ z) c.from.ensures start in
    let second : c.weighted-2.result ≡ pos a.i *ℤ a.end =
    c.weighted-2.ensures.value ∙ ap₂ (λ m z. pos m *ℤ z) c.from-2.ensures end in
    let numerator = sum ∙ ap₂ (λ x y. x +ℤ y) first second in
    let product = ap₂ (λ m n. m * n) c.from-3.ensures c.from-4.ensures in
    let denominator : to_z w128 (of_z w128 c.from-5.result) ≡ pos (a.scale * a.steps) =
    to_z-of_z w128 c.from-5.result (search rules) ∙ c.from-5.ensures ∙ ap pos product in
    subst₂ (λ m n. IsRatio c.reduced.result m n) numerator denominator c.reduced.ensures
