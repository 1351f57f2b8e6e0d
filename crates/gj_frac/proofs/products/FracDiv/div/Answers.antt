use Rattle.std.proofs.Common.{arith}
use Rattle.std.proofs.lemmas.Nat.Gcd.{IsGcd-swap}
use Rattle.gj_frac.specs.Fraction.{IsRatio}
use Rattle.gj_frac.proofs.Crosswise.{crosswise_coprime, product_is_along, product_fits}
use Rattle.gj_lemmas.proofs.Integers.{abs_positive_z, abs_zero_z}
use Rattle.gj_frac.proofs.Reduced.{num_over_num, den_over_den, read_part, read_some}
use Rattle.gj_frac.proofs.products.FracDiv.div.Goals as goal

pub reduced-requires-clause-zero : goal.reduced-requires-clause-zero
reduced-requires-clause-zero c =
    simp (read_part c.args.other.num c.args.other.lowest.num_fits)
    (λ e. c.requires.divisor (abs_zero_z c.args.other.num e))

-- the first factor is the one numerator over the other
first : (c : goal.After-reduced-2) → IsRatio c.reduced.result c.args.self.num c.args.other.num
first c = num_over_num c.args.self c.args.other c.reduced.result c.reduced.ensures

-- the second factor is the other denominator over the one
second : (c : goal.After-reduced-2) → IsRatio c.reduced-2.result c.args.other.den c.args.self.den
second c = den_over_den c.args.other c.args.self c.reduced-2.result c.reduced-2.ensures

pub crosswise_coprime_product-requires-clause-first :
    goal.crosswise_coprime_product-requires-clause-first
crosswise_coprime_product-requires-clause-first c =
    crosswise_coprime c.reduced.result c.reduced-2.result _ _ _ _ (first c)
    (second c) c.args.self.lowest.coprime

pub crosswise_coprime_product-requires-clause-second :
    goal.crosswise_coprime_product-requires-clause-second
crosswise_coprime_product-requires-clause-second c =
    crosswise_coprime c.reduced-2.result c.reduced.result _ _ _ _ (second c) (first c)
    (IsGcd-swap _ _ _ c.args.other.lowest.coprime)

pub crosswise_coprime_product-requires-clause-fits :
    goal.crosswise_coprime_product-requires-clause-fits
crosswise_coprime_product-requires-clause-fits c =
    let some = abs_positive_z c.args.self.den c.args.self.lowest.positive in
    product_fits c.reduced.result c.reduced-2.result c.requires.fits.0 _ _ _ _ (first c) (second c)
    (omega arith) (λ e. c.requires.divisor (abs_zero_z c.args.other.num e)) c.requires.fits.1

pub returns : goal.returns
returns c =
    let first = num_over_num c.args.self c.args.other c.reduced.result c.reduced.ensures in
    let second = den_over_den c.args.other c.args.self c.reduced-2.result c.reduced-2.ensures in
    product_is_along c.reduced.result c.reduced-2.result c.crosswise_coprime_product.result _ _ _ _
    first second c.crosswise_coprime_product.ensures

pub reduced-requires-2-clause-zero : goal.reduced-requires-2-clause-zero
reduced-requires-2-clause-zero c = read_some c.args.self
