use Rattle.std.proofs.Common.{◌≡◌, ◌≤◌, ◌/◌, pos, unsigned_abs, w64, to_z, of_z, arith, rules, ap, ◌∙◌}
use Rattle.std.proofs.lemmas.Int.{ints, to_z-of_z}
use Rattle.std.proofs.lemmas.Nat.Gcd.{le_of_dvd}
use Rattle.gj_frac.specs.Fraction.{numerator, denominator}
use Rattle.gj_shape.proofs.NumeratorBounds.{numerator_fits}
use Rattle.gj_shape.proofs.numerators.numerator_over.Goals as goal
use mir.Syntax.{w128}

pub overflow_cast-factor : goal.overflow_cast-factor
overflow_cast-factor c =
    let a : unsigned_abs (denominator c.args.x) ≤ c.args.scale =
    le_of_dvd c.requires.low c.requires.multiple in
    let e = ap unsigned_abs c.den.ensures in
    omega (arith, ints)

pub overflow_cast-result : goal.overflow_cast-result
overflow_cast-result c =
    let a : unsigned_abs (denominator c.args.x) ≤ c.args.scale =
    le_of_dvd c.requires.low c.requires.multiple in
    let small = c.requires.small in
    let e = ap unsigned_abs c.num.ensures in
    omega (arith, ints)

pub overflow_mul-result : goal.overflow_mul-result
overflow_mul-result c =
    let a : unsigned_abs (denominator c.args.x) ≤ c.args.scale =
    le_of_dvd c.requires.low c.requires.multiple in
    let small = c.requires.small in
    let e = ap unsigned_abs c.num.ensures in
    let num : to_z w64 (of_z w64 (to_z w128 (of_z w128 c.num.result))) ≡ numerator c.args.x =
    omega (arith, ints) in
    let whole : to_z w128 (of_z w128 c.den.result) ≡ denominator c.args.x =
    to_z-of_z w128 c.den.result (search rules) ∙ c.den.ensures in
    let den : c.unsigned_abs.result ≡ unsigned_abs (denominator c.args.x) =
    c.unsigned_abs.ensures.value ∙ ap unsigned_abs whole in
    let factor : to_z w64 (of_z w64 c.from.result)
    ≡ pos (c.args.scale / unsigned_abs (denominator c.args.x)) =
    to_z-of_z w64 c.from.result (search rules) ∙ c.from.ensures
    ∙ ap (λ d. pos (c.args.scale / d)) den in
    rw (num, factor) (numerator_fits _ _ _ small c.requires.multiple c.requires.high)

pub returns : goal.returns
returns c =
    let a : unsigned_abs (denominator c.args.x) ≤ c.args.scale =
    le_of_dvd c.requires.low c.requires.multiple in
    let small = c.requires.small in
    let e = ap unsigned_abs c.num.ensures in
    let num : to_z w64 (of_z w64 (to_z w128 (of_z w128 c.num.result))) ≡ numerator c.args.x =
    omega (arith, ints) in
    let whole : to_z w128 (of_z w128 c.den.result) ≡ denominator c.args.x =
    to_z-of_z w128 c.den.result (search rules) ∙ c.den.ensures in
    let den : c.unsigned_abs.result ≡ unsigned_abs (denominator c.args.x) =
    c.unsigned_abs.ensures.value ∙ ap unsigned_abs whole in
    let factor : to_z w64 (of_z w64 c.from.result)
    ≡ pos (c.args.scale / unsigned_abs (denominator c.args.x)) =
    to_z-of_z w64 c.from.result (search rules) ∙ c.from.ensures
    ∙ ap (λ d. pos (c.args.scale / d)) den in
    rw (num, factor) (to_z-of_z w64 _
    (numerator_fits _ _ _ small c.requires.multiple c.requires.high))
