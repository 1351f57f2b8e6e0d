use Rattle.std.proofs.Common.{arith}
use Rattle.gj_frac.specs.Fraction.{IsRatio}
use Rattle.gj_frac.proofs.Crosswise.{crosswise_coprime, product_is_along, product_fits}
use Rattle.gj_lemmas.proofs.Integers.{abs_positive_z}
use Rattle.gj_frac.proofs.Reduced.{num_over_den, read_some}
use Rattle.gj_frac.proofs.products.FracMul.mul.Goals as goal

-- the first factor is the one numerator over the other denominator
first : (c : goal.After-reduced-2) → IsRatio c.reduced.result c.args.self.num c.args.other.den
first c = num_over_den c.args.self c.args.other c.reduced.result c.reduced.ensures

-- the second factor the other way round
second : (c : goal.After-reduced-2) → IsRatio c.reduced-2.result c.args.other.num c.args.self.den
second c = num_over_den c.args.other c.args.self c.reduced-2.result c.reduced-2.ensures

pub crosswise_coprime_product-requires-clause-first :
    goal.crosswise_coprime_product-requires-clause-first
crosswise_coprime_product-requires-clause-first c =
    crosswise_coprime c.reduced.result c.reduced-2.result _ _ _ _ (first c)
    (second c) c.args.self.lowest.coprime

pub crosswise_coprime_product-requires-clause-second :
    goal.crosswise_coprime_product-requires-clause-second
crosswise_coprime_product-requires-clause-second c =
    crosswise_coprime c.reduced-2.result c.reduced.result _ _ _ _ (second c)
    (first c) c.args.other.lowest.coprime

pub crosswise_coprime_product-requires-clause-fits :
    goal.crosswise_coprime_product-requires-clause-fits
crosswise_coprime_product-requires-clause-fits c =
    let some = abs_positive_z c.args.self.den c.args.self.lowest.positive in
    let other_some = abs_positive_z c.args.other.den c.args.other.lowest.positive in
    product_fits c.reduced.result c.reduced-2.result c.requires.0 _ _ _ _ (first c) (second c)
    (omega arith) (omega arith) c.requires.1

pub returns : goal.returns
returns c =
    let first = num_over_den c.args.self c.args.other c.reduced.result c.reduced.ensures in
    let second = num_over_den c.args.other c.args.self c.reduced-2.result c.reduced-2.ensures in
    product_is_along c.reduced.result c.reduced-2.result c.crosswise_coprime_product.result _ _ _ _
    first second c.crosswise_coprime_product.ensures

pub reduced-requires-clause-zero : goal.reduced-requires-clause-zero
reduced-requires-clause-zero c = read_some c.args.other

pub reduced-requires-2-clause-zero : goal.reduced-requires-2-clause-zero
reduced-requires-2-clause-zero c = read_some c.args.self
