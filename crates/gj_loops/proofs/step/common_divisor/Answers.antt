use Rattle.std.proofs.Common.{ap, pos, ◌∙◌, unsigned_abs, arith}
use Rattle.std.proofs.lemmas.Int.{ints, to_z-of_z}
use mir.Syntax.{w128}
use Rattle.gj_theory.proofs.WideNumbers.{IsDivisor, divisor_of, fits_natural, read_natural}
use Rattle.gj_loops.proofs.step.common_divisor.Goals as goal

divisor : (c : goal.After-gcd) → IsDivisor c.args.m c.args.n c.gcd.result
divisor c =
    divisor_of c.args.m c.args.n c.unsigned_abs.result c.unsigned_abs-2.result c.gcd.result
    c.requires.fits c.requires.some
    (c.unsigned_abs.ensures.value ∙ ap unsigned_abs (to_z-of_z w128 c.args.m c.ranges.m))
    (c.unsigned_abs-2.ensures.value ∙ ap unsigned_abs (to_z-of_z w128 c.args.n c.ranges.n))
    c.gcd.ensures

pub overflow_cast-result : goal.overflow_cast-result
overflow_cast-result c = fits_natural c.gcd.result (divisor c).small

pub returns-clause-value : goal.returns-clause-value
returns-clause-value c = read_natural c.gcd.result (divisor c).small ∙ ap pos (divisor c).is

pub returns-clause-positive : goal.returns-clause-positive
returns-clause-positive c =
    let read = read_natural c.gcd.result (divisor c).small in
    let positive = (divisor c).positive in
    omega (arith, ints)
