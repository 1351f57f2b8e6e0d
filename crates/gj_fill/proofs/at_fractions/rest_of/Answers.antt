use Rattle.std.proofs.Common.{◌≡◌, ◌<◌, pos, unsigned_abs, to_z, of_z, ap₂, subst, sym, ◌∙◌, arith}
use Rattle.std.proofs.lemmas.Int.{ints}
use Rattle.std.specs.Int.{int_rem_euclid}
use Rattle.gj_frac.specs.Fraction.{numerator, denominator}
use Rattle.gj_shape.specs.Values.{IsCongruent}
use Rattle.gj_shape.proofs.ValueLemmas.{congruent_to_remainder}
use Rattle.gj_fill.proofs.at_fractions.rest_of.Goals as goal
use mir.Syntax.{w128}

pub returns-clause-congruent : goal.returns-clause-congruent
returns-clause-congruent c =
    let x = c.args.x in
    let d = unsigned_abs (denominator x) in
    let above = x.lowest.positive in
    let some : 0 < d = omega (arith, ints) in
    let n_is : to_z w128 (of_z w128 c.num.result) ≡ numerator x =
    omega (arith, ints, c.num.ensures) in
    let d_is : to_z w128 (of_z w128 c.den.result) ≡ pos d = omega (arith, ints, c.den.ensures) in
    let rest : c.rem_euclid.result ≡ int_rem_euclid (numerator x) (pos d) =
    c.rem_euclid.ensures.value ∙ ap₂ int_rem_euclid n_is d_is in
    let low = c.rem_euclid.ensures.lower_bound in
    let same : pos (unsigned_abs (to_z w128 (of_z w128 c.rem_euclid.result)))
    ≡ c.rem_euclid.result = omega (arith, ints) in
    subst (λ z. IsCongruent (numerator x) z d) (sym (same ∙ rest))
    (congruent_to_remainder (numerator x) d some)
