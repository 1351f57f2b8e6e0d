use Rattle.std.proofs.Common.{◌≡◌, ◌*◌, ◌^◌, pos, unsigned_abs, to_z, of_z, ap₂, ap, ◌∙◌, arith, FitsSigned, ◌*ℤ◌}
use Rattle.std.proofs.Math.Nat.{mul-pos}
use Rattle.std.proofs.lemmas.Int.{ints, to_z-of_z, fits_signed_mul}
use Rattle.std.specs.Int.{int_rem_euclid}
use Rattle.gj_shape.proofs.ValueLemmas.{congruent_to_parts}
use Rattle.gj_shape.proofs.values.place_in_128_bits.Goals as goal
use mir.Syntax.{w128}

pub returns-clause-congruent : goal.returns-clause-congruent
returns-clause-congruent c =
    let order = c.args.order in
    let steps = c.args.steps in
    let number : to_z w128 (of_z w128 c.args.n) ≡ c.args.n = to_z-of_z w128 c.args.n c.ranges.n in
    let same : pos (unsigned_abs (to_z w128 (of_z w128 c.rem_euclid-place.result)))
    ≡ c.rem_euclid-place.result = omega (arith, ints) in
    let fits : FitsSigned w128 (pos order *ℤ pos steps) =
    fits_signed_mul w128 (pos order) (pos steps) (2 ^ 32) (2 ^ 64) (omega arith) (omega arith)
    (omega arith) in
    let product : c.from.result * c.from-2.result ≡ order * steps =
    ap₂ (λ a b. a * b) c.from.ensures c.from-2.ensures in
    let period : to_z w128 (c.from.result * c.from-2.result) ≡ pos (order * steps) =
    ap (to_z w128) product ∙ to_z-of_z w128 (pos (order * steps)) fits in
    let rest : c.rem_euclid-place.result ≡ int_rem_euclid c.args.n (pos (order * steps)) =
    c.rem_euclid-place.ensures.value ∙ ap₂ int_rem_euclid number period in
    congruent_to_parts c.args.n order steps c.from-steps.result _
    (mul-pos c.requires.order c.requires.steps) c.from-steps.ensures
    (same ∙ rest)
