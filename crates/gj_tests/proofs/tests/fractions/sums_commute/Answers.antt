use Rattle.std.proofs.Common.{pos, arith, lit<, refl}
use Rattle.gj_frac.proofs.OneDenominator.{fits_sum_over}
use Rattle.gj_frac.proofs.SameValues.{is_along}
use Rattle.gj_tests.proofs.tests.fractions.sums_commute.Goals as goal

pub sums_in_both_orders-requires : goal.sums_in_both_orders-requires
sums_in_both_orders-requires g c =
    fits_sum_over c.ratio.result c.ratio-2.result (pos 1) (pos 2) (pos 6) c.ratio.ensures
    (is_along c.ratio-2.result (pos 1) (pos 3) (pos 2) (pos 6)
    (λ e. omega arith) c.ratio-2.ensures refl)
    (λ e. omega arith) (lit< tt) (lit< tt) (lit< tt) (lit< tt)
