use Rattle.std.proofs.Common.{◌<◌, unsigned_abs, subst, arith}
use Rattle.gj_lemmas.specs.Divisors.{IsLcm}
use Rattle.gj_frac.specs.Fraction.{denominator}
use Rattle.gj_shape.proofs.LeastDenominator.{denominator_some}
use Rattle.gj_shape.proofs.BreakLists.{no_order_above, lcm_at_most}
use Rattle.gj_shape.proofs.breaks.order_with.Goals as goal

pub returns-in_err-small_denominator-clause-none : goal.returns-in_err-small_denominator-clause-none
returns-in_err-small_denominator-clause-none c =
    let large = c.in_err-small_denominator.ensures in
    let above : 1000 < unsigned_abs (denominator c.args.x) = omega (arith, large) in
    rw c.from_residual.ensures (λ m few lcm. no_order_above _ _ m c.requires above few lcm)

pub returns-then-multiple-from-clause-none : goal.returns-then-multiple-from-clause-none
returns-then-multiple-from-clause-none c = λ m few lcm.
    let is = subst (λ d. IsLcm c.args.order d c.lcm-multiple.result)
    c.in_ok-small_denominator.ensures.1 c.lcm-multiple.ensures in
    let at_most = lcm_at_most _ _ m _ c.requires (denominator_some c.args.x) lcm is in
    omega (arith, c.if-multiple-from.true, c.from.ensures)

pub returns-clause-least : goal.returns-clause-least
returns-clause-least c =
    subst (λ d. IsLcm c.args.order d c.lcm-multiple.result) c.in_ok-small_denominator.ensures.1
    c.lcm-multiple.ensures
