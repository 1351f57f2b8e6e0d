use Rattle.std.proofs.Common.{◌≡◌, unsigned_abs, rules, arith}
use Rattle.gj_frac.specs.Fraction.{denominator}
use Rattle.gj_shape.proofs.LeastDenominator.{denominator_some}
use Rattle.gj_check.proofs.denominators.positive_denominator.Goals as goal

pub returns-clause-some : goal.returns-clause-some
returns-clause-some c =
    let some = denominator_some c.args.x in
    let is : c.unsigned_abs.result ≡ unsigned_abs (denominator c.args.x) = search rules in
    omega arith
