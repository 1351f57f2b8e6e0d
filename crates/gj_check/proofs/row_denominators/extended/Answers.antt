use Rattle.std.proofs.Common.{ℕ, refl, subst, arith}
use Rattle.gj_lemmas.specs.Divisors.{IsLcm}
use Rattle.gj_check.proofs.LimitsOfRows.{extends, limit_small, beyond_multiple}
use Rattle.gj_check.proofs.row_denominators.extended.Goals as goal

pub returns-then-not-is_within_limits-clause-beyond :
    goal.returns-then-not-is_within_limits-clause-beyond
returns-then-not-is_within_limits-clause-beyond c xs h meets =
    let yes = c.is_within_limits.ensures.1 (limit_small xs c.args.x meets) in
    let no = c.if-not-is_within_limits.true in
    (cc)

pub returns-then-multiple-from-clause-beyond : goal.returns-then-multiple-from-clause-beyond
returns-then-multiple-from-clause-beyond c =
    let m = c.lcm-multiple.result in
    beyond_multiple c.args.common m c.args.x
    (subst (λ (d : ℕ). IsLcm c.args.common d m) c.denominator_of.ensures.value
    c.lcm-multiple.ensures)
    (omega (arith, c.if-multiple-from.true))

pub returns-clause-within : goal.returns-clause-within
returns-clause-within c =
    let m = c.lcm-multiple.result in
    extends c.args.common m c.args.x (c.if-not-is_within_limits.ensures.0 refl)
    (subst (λ (d : ℕ). IsLcm c.args.common d m) c.denominator_of.ensures.value
    c.lcm-multiple.ensures)
    (omega (arith, c.if-multiple-from.false))
