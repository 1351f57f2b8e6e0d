use Rattle.std.proofs.Common.{◌≡◌, ◌+◌, ◌*◌, ◌/◌, ◌%◌, ◌*ℤ◌, pos, unsigned_abs, to_z, of_z, w64, ap₂, sym, subst, ◌∙◌, rules, arith}
use Rattle.std.proofs.lemmas.Int.{ints, to_z-of_z}
use Rattle.std.specs.Int.{int_rem_euclid}
use Rattle.gj_shape.specs.Values.{IsCongruent}
use Rattle.gj_shape.proofs.ValueLemmas.{congruent_to_scaled}
use Rattle.gj_shape.proofs.values.small_place.Goals as goal

pub returns-clause-congruent : goal.returns-clause-congruent
returns-clause-congruent c =
    let n = c.args.num in
    let rest = unsigned_abs (to_z w64 (of_z w64 c.rem_euclid.result)) in
    let same : pos rest ≡ c.rem_euclid.result = omega (arith, ints) in
    let is : pos rest ≡ int_rem_euclid n (pos c.args.den) =
    same ∙ c.rem_euclid.ensures.value ∙ ap₂ int_rem_euclid (to_z-of_z w64 n c.ranges.num)
    (to_z-of_z w64 c.from.result (search rules) ∙ c.from.ensures) in
    let d = c.args.den in
    let steps = c.from-steps.result in
    subst (λ m. IsCongruent (n *ℤ pos c.args.order) (pos (rest * m / steps * d + rest * m % steps))
    (c.args.order * d)) (sym c.from-2.ensures)
    (congruent_to_scaled n c.args.order d steps rest c.requires.den c.from-steps.ensures is)
