use Rattle.std.proofs.Common.{ℕ, ◌-◌, ◌*◌, ◌^◌, ◌<◌, ◌≤◌, pos, sym, subst, arith}
use Rattle.std.proofs.Math.Nat.{mul-pos}
use Rattle.gj_frac.specs.Fraction.{IsRatio}
use Rattle.gj_problem_text.proofs.ScaledNumbers.{one_power_less, fits_below, divided_once}
use Rattle.gj_problem_text.proofs.ScaledNumbers.{can_divide, ok_value, err_case}
use Rattle.gj_problem_text.proofs.numbers.divided.Goals as goal

positive : (b : ℕ) → 2 ≤ b → 0 < b
positive b some = omega (arith, some)

pub returns-in_err-quotient-clause-none : goal.returns-in_err-quotient-clause-none
returns-in_err-quotient-clause-none c =
    let (bottom, some, product, is) = c.loop-left.invariant in
    let base_some = positive c.args.base c.requires.base_some in
    rw c.from_residual.ensures
    (λ x h.
    let (w, w_is) = fits_below x c.args.top (bottom * c.args.base)
    (c.args.base ^ (c.loop-left.left - 1)) c.requires.top_some c.requires.top_fits
    (mul-pos some base_some)
    (subst (λ d. IsRatio x (pos c.args.top) (pos d))
    (sym (one_power_less bottom c.args.base c.loop-left.left _ c.loop-left-test.true product)) h) in
    err_case c.checked_mul.result _ c.in_err-quotient.ensures.value c.checked_mul.ensures.wide
    (can_divide c.loop-left.quotient c.ratio-part.result w c.args.top bottom c.args.base some
    base_some is c.ratio-part.ensures w_is))

pub loop-left-preserved : goal.loop-left-preserved
loop-left-preserved c =
    let (bottom, some, product, is) = c.loop-left.invariant in (
      bottom * c.args.base,
      mul-pos some (positive c.args.base c.requires.base_some),
      one_power_less bottom c.args.base c.loop-left.left _ c.loop-left-test.true product,
      divided_once c.loop-left.quotient c.ratio-part.result c.in_ok-quotient.quotient c.args.top
          bottom c.args.base is c.ratio-part.ensures
          (ok_value c.checked_mul.result _ c.in_ok-quotient.quotient c.in_ok-quotient.ensures.value
          c.checked_mul.ensures.value),
    )
