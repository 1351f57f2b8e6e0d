use Rattle.std.proofs.Common.{◌≡◌, ◌*◌, ◌%◌, ◌/◌, ◌<◌, ◌^◌, unsigned_abs, to_z, of_z, ap, arith}
use Rattle.std.proofs.Math.Nat.{mod-lt}
use Rattle.std.proofs.lemmas.Int.{ints}
use Rattle.gj_frac.specs.Fraction.{denominator}
use Rattle.gj_fill.proofs.FilledValues.{place_by_parts}
use Rattle.gj_fill.proofs.at_fractions.place_of.Goals as goal
use mir.Syntax.{w128}

pub returns : goal.returns
returns c =
    let x = c.args.x in
    let d = unsigned_abs (denominator x) in
    let i = c.from.result * c.rest_of.result in
    let e = unsigned_abs (to_z w128 (of_z w128 c.den-parts.result)) in
    let some : 0 < d = let low = c.rest_of.ensures.below in omega arith in
    let fine : d < 2 ^ 31 = c.requires.range.fine in
    let e_is : e ≡ d = omega (arith, ints, c.den-parts.ensures) in
    let rest_is : i % e ≡ i % d = ap (λ n. i % n) e_is in
    let below = mod-lt i some in
    place_by_parts c.args.q x _ c.rest_of.result i c.requires.some some c.rest_of.ensures.below
    (ap (λ n. n * c.rest_of.result) c.from.ensures)
    c.rest_of.ensures.congruent (ap (λ n. i / n) e_is) (omega (arith, ints)) (omega (arith, ints))
    (omega (arith, ints))
