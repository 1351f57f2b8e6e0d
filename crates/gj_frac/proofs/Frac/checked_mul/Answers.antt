use Rattle.std.proofs.Common.{arith}
use Rattle.gj_frac.proofs.Crosswise.{crosswise_coprime, product_is_along, product_fits}
use Rattle.gj_lemmas.proofs.Integers.{abs_positive_z}
use Rattle.gj_frac.proofs.Reduced.{num_over_den}
use Rattle.gj_frac.proofs.Refusals.{on_ok_along, on_err_along}
use Rattle.gj_frac.proofs.Frac.checked_mul.Goals as goal

pub checked_crosswise_product-requires-clause-first :
    goal.checked_crosswise_product-requires-clause-first
checked_crosswise_product-requires-clause-first c =
    let first = num_over_den c.args.self c.args.other c.reduced.result c.reduced.ensures in
    let second = num_over_den c.args.other c.args.self c.reduced-2.result c.reduced-2.ensures in
    crosswise_coprime c.reduced.result c.reduced-2.result _ _ _ _ first second
    c.args.self.lowest.coprime

pub checked_crosswise_product-requires-clause-second :
    goal.checked_crosswise_product-requires-clause-second
checked_crosswise_product-requires-clause-second c =
    let first = num_over_den c.args.self c.args.other c.reduced.result c.reduced.ensures in
    let second = num_over_den c.args.other c.args.self c.reduced-2.result c.reduced-2.ensures in
    crosswise_coprime c.reduced-2.result c.reduced.result _ _ _ _ second first
    c.args.other.lowest.coprime

pub returns-clause-fits : goal.returns-clause-fits
returns-clause-fits c =
    let first = num_over_den c.args.self c.args.other c.reduced.result c.reduced.ensures in
    let second = num_over_den c.args.other c.args.self c.reduced-2.result c.reduced-2.ensures in
    on_ok_along c.checked_crosswise_product.result _ _
    (λ z h. (z, product_is_along c.reduced.result c.reduced-2.result z _ _ _ _ first second h))
    c.checked_crosswise_product.ensures.value

pub returns-clause-value : goal.returns-clause-value
returns-clause-value c =
    let first = num_over_den c.args.self c.args.other c.reduced.result c.reduced.ensures in
    let second = num_over_den c.args.other c.args.self c.reduced-2.result c.reduced-2.ensures in
    on_ok_along c.checked_crosswise_product.result _ _
    (λ z h. product_is_along c.reduced.result c.reduced-2.result z _ _ _ _ first second h)
    c.checked_crosswise_product.ensures.value

pub returns-clause-wide : goal.returns-clause-wide
returns-clause-wide c =
    let first = num_over_den c.args.self c.args.other c.reduced.result c.reduced.ensures in
    let second = num_over_den c.args.other c.args.self c.reduced-2.result c.reduced-2.ensures in
    let some = abs_positive_z c.args.self.den c.args.self.lowest.positive in
    let other_some = abs_positive_z c.args.other.den c.args.other.lowest.positive in
    on_err_along c.checked_crosswise_product.result _ _
    (λ refused fits. refused
    (product_fits c.reduced.result c.reduced-2.result fits.0 _ _ _ _ first second (omega arith)
    (omega arith) fits.1))
    c.checked_crosswise_product.ensures.wide
