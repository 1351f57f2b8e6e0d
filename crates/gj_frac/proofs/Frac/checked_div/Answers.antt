use Rattle.std.proofs.Common.{pos, ◌≢◌, of_z, ap, arith}
use Rattle.std.proofs.lemmas.Nat.Gcd.{IsGcd-swap}
use Rattle.gj_frac.proofs.Crosswise.{crosswise_coprime, product_is_along, product_fits}
use Rattle.gj_lemmas.proofs.Integers.{abs_positive_z, abs_zero_z}
use Rattle.gj_frac.proofs.Reduced.{num_over_num, den_over_den, read_some}
use Rattle.gj_frac.proofs.Frac.checked_div.Goals as goal
use mir.Syntax.{w128}

pub checked_crosswise_product-requires-clause-first :
    goal.checked_crosswise_product-requires-clause-first
checked_crosswise_product-requires-clause-first c =
    let first = num_over_num c.args.self c.args.other c.reduced.result c.reduced.ensures in
    let second = den_over_den c.args.other c.args.self c.reduced-2.result c.reduced-2.ensures in
    crosswise_coprime c.reduced.result c.reduced-2.result _ _ _ _ first second
    c.args.self.lowest.coprime

pub checked_crosswise_product-requires-clause-second :
    goal.checked_crosswise_product-requires-clause-second
checked_crosswise_product-requires-clause-second c =
    let first = num_over_num c.args.self c.args.other c.reduced.result c.reduced.ensures in
    let second = den_over_den c.args.other c.args.self c.reduced-2.result c.reduced-2.ensures in
    crosswise_coprime c.reduced-2.result c.reduced.result _ _ _ _ second first
    (IsGcd-swap _ _ _ c.args.other.lowest.coprime)

pub returns-in_err-quotient-clause-wide : goal.returns-in_err-quotient-clause-wide
returns-in_err-quotient-clause-wide c is =
    let first = num_over_num c.args.self c.args.other c.reduced.result c.reduced.ensures in
    let second = den_over_den c.args.other c.args.self c.reduced-2.result c.reduced-2.ensures in
    let divisor : c.args.other.num ≢ pos 0 = λ e. c.if-other-eq0.false (ap (of_z w128) e) in
    let some = abs_positive_z c.args.self.den c.args.self.lowest.positive in
    let refused = c.in_err-quotient.ensures.wide in (
      divisor,
      λ fits. refused (product_fits c.reduced.result c.reduced-2.result fits.fits.0 _ _ _ _ first
          second
          (omega arith) (λ e. divisor (abs_zero_z c.args.other.num e)) fits.fits.1),
    )

pub returns-clause-fits : goal.returns-clause-fits
returns-clause-fits c =
    let first = num_over_num c.args.self c.args.other c.reduced.result c.reduced.ensures in
    let second = den_over_den c.args.other c.args.self c.reduced-2.result c.reduced-2.ensures in
    let divisor : c.args.other.num ≢ pos 0 = λ e. c.if-other-eq0.false (ap (of_z w128) e) in
    record {
      divisor = divisor;
      fits = (
        c.in_ok-quotient.quotient,
        product_is_along c.reduced.result c.reduced-2.result c.in_ok-quotient.quotient
            _ _ _ _ first second c.in_ok-quotient.ensures.value,
      );
    }

pub returns-clause-value : goal.returns-clause-value
returns-clause-value c =
    let first = num_over_num c.args.self c.args.other c.reduced.result c.reduced.ensures in
    let second = den_over_den c.args.other c.args.self c.reduced-2.result c.reduced-2.ensures in
    product_is_along c.reduced.result c.reduced-2.result c.in_ok-quotient.quotient _ _ _ _ first
    second c.in_ok-quotient.ensures.value

pub reduced-requires-2-clause-zero : goal.reduced-requires-2-clause-zero
reduced-requires-2-clause-zero c = read_some c.args.self
