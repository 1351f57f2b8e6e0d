use Rattle.std.proofs.Common.{unsigned_abs, rules}
use Rattle.std.specs.Int.{IsGcd}
use Rattle.std.proofs.lemmas.Int.{to_z-of_z}
use Rattle.gj_frac.proofs.Reduced.{coprime_signed_quotients, same_from_multiples, divisor_of_positive, quotient_fits}
use Rattle.gj_frac.proofs.Sums.{factor_some}
use Rattle.gj_frac.proofs.Frac.reduced_in_128_bits.Goals as goal
use mir.Syntax.{w128}

pub quotient-requires-clause-divides : goal.quotient-requires-clause-divides
quotient-requires-clause-divides c =
    let num = to_z-of_z w128 c.args.num c.ranges.num in
    let divisor = to_z-of_z w128 c.common_divisor-divisor.result (search rules) in
    simp (num, divisor) (simp num at c.common_divisor-divisor.ensures.greatest.0)

pub quotient-requires-2-clause-divides : goal.quotient-requires-2-clause-divides
quotient-requires-2-clause-divides c =
    let den = to_z-of_z w128 c.args.den c.ranges.den in
    let divisor = to_z-of_z w128 c.common_divisor-divisor.result (search rules) in
    simp (den, divisor) (simp den at c.common_divisor-divisor.ensures.greatest.1)

pub coprime-requires-clause-coprime : goal.coprime-requires-clause-coprime
coprime-requires-clause-coprime c =
    let num = to_z-of_z w128 c.args.num c.ranges.num in
    let den = to_z-of_z w128 c.args.den c.ranges.den in
    let divisor = to_z-of_z w128 c.common_divisor-divisor.result (search rules) in
    let num' = to_z-of_z w128 c.quotient.result (search rules) in
    let den' = to_z-of_z w128 c.quotient-2.result (search rules) in
    let greatest : IsGcd (unsigned_abs c.args.num) (unsigned_abs c.args.den)
    (unsigned_abs c.common_divisor-divisor.result) =
    simp (num, den) at c.common_divisor-divisor.ensures.greatest in
    simp (num', den')
    (coprime_signed_quotients c.args.num c.args.den c.common_divisor-divisor.result _ _ greatest
    (divisor_of_positive _ _ c.requires.zero greatest.1).0
    (simp (num, divisor) at c.quotient.ensures) (simp (den, divisor) at c.quotient-2.ensures))

pub returns : goal.returns
returns c =
    let num = to_z-of_z w128 c.args.num c.ranges.num in
    let den = to_z-of_z w128 c.args.den c.ranges.den in
    let divisor = to_z-of_z w128 c.common_divisor-divisor.result (search rules) in
    let num' = to_z-of_z w128 c.quotient.result (search rules) in
    let den' = to_z-of_z w128 c.quotient-2.result (search rules) in
    same_from_multiples _ _ c.quotient.result c.quotient-2.result c.common_divisor-divisor.result
    c.args.num c.args.den
    (simp (num, divisor) at c.quotient.ensures) (simp (den, divisor) at c.quotient-2.ensures)
    (simp (num', den') at c.coprime.ensures)

pub coprime-requires-clause-zero : goal.coprime-requires-clause-zero
coprime-requires-clause-zero c =
    let den = to_z-of_z w128 c.args.den c.ranges.den in
    let divisor = to_z-of_z w128 c.common_divisor-divisor.result (search rules) in
    simp (to_z-of_z w128 c.quotient-2.result (search rules))
    (factor_some c.quotient-2.result c.common_divisor-divisor.result c.args.den
    (simp (den, divisor) at c.quotient-2.ensures) c.requires.zero)

pub coprime-requires-clause-num_fits : goal.coprime-requires-clause-num_fits
coprime-requires-clause-num_fits c =
    let num = to_z-of_z w128 c.args.num c.ranges.num in
    let divisor = to_z-of_z w128 c.common_divisor-divisor.result (search rules) in
    simp (to_z-of_z w128 c.quotient.result (search rules))
    (quotient_fits c.quotient.result _ c.args.num c.common_divisor-divisor.ensures.positive
    (simp (num, divisor) at c.quotient.ensures) c.requires.num_fits)

pub coprime-requires-clause-den_fits : goal.coprime-requires-clause-den_fits
coprime-requires-clause-den_fits c =
    let den = to_z-of_z w128 c.args.den c.ranges.den in
    let divisor = to_z-of_z w128 c.common_divisor-divisor.result (search rules) in
    simp (to_z-of_z w128 c.quotient-2.result (search rules))
    (quotient_fits c.quotient-2.result _ c.args.den c.common_divisor-divisor.ensures.positive
    (simp (den, divisor) at c.quotient-2.ensures) c.requires.den_fits)
