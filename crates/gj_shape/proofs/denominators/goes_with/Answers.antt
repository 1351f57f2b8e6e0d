use Rattle.std.proofs.Common.{◌≡◌, ◌≤◌, ◌*◌, ◌%◌, unsigned_abs, to_z, of_z, ap, ◌∙◌, sym, arith, rules}
use Rattle.std.proofs.Math.Nat.{mul-le-mul_left}
use Rattle.std.proofs.lemmas.Int.{to_z-of_z}
use Rattle.std.proofs.lemmas.Bool.{eqb-true}
use Rattle.std.proofs.lemmas.Nat.Gcd.{dvd_refl, dvd_of_mod-eq-zero}
use Rattle.gj_frac.specs.Fraction.{numerator, denominator}
use Rattle.gj_shape.specs.Limits.{greatest_value}
use Rattle.gj_shape.proofs.LeastDenominator.{denominator_some}
use Rattle.gj_shape.proofs.denominators.goes_with.Goals as goal
use mir.Syntax.{w128}

pub returns : goal.returns
returns c h =
    let d = unsigned_abs (denominator c.args.x) in
    let some = denominator_some c.args.x in
    let times : greatest_value * 1 ≤ greatest_value * d = mul-le-mul_left greatest_value some in
    let num : to_z w128 (of_z w128 c.num.result) ≡ numerator c.args.x =
    to_z-of_z w128 c.num.result (search rules) ∙ c.num.ensures in
    let size : c.unsigned_abs.result ≡ unsigned_abs (numerator c.args.x) =
    c.unsigned_abs.ensures.value ∙ ap unsigned_abs num in
    let whole : to_z w128 (of_z w128 c.den-2.result) ≡ denominator c.args.x =
    to_z-of_z w128 c.den-2.result (search rules) ∙ c.den-2.ensures in
    let rest : c.args.scale % unsigned_abs (to_z w128 (of_z w128 c.den-2.result)) ≡ 0 =
    eqb-true _ 0 h in
    let none : c.args.scale % d ≡ 0 = sym (ap (λ z. c.args.scale % unsigned_abs z) whole) ∙ rest in
    record {
      small = omega (arith, times, size, c.if-unsigned_abs-gt-GREATEST_VALUE.false);
      least = (dvd_refl c.args.scale, dvd_of_mod-eq-zero d none, λ m p q. p);
      high = omega (arith, c.if-scale-gt-GREATEST_DENOMINATOR.false);
    }
