use Rattle.std.proofs.Common.{◌≡◌, ℕ, pos, ◌+ℤ◌, ◌*ℤ◌, ◌+◌, ◌-◌, ◌/◌, ◌<ℤ◌, ◌≤ℤ◌, unsigned_abs, ap, ap₂, sym, subst, ◌∙◌, w64, arith}
use Rattle.std.proofs.lemmas.Int.{ints, to_z-of_z}
use Rattle.gj_shape.specs.FirstViolation.{IsLeastFrom}
use Rattle.gj_minimal.proofs.LeastDenominators.{least_from_quotient}
use Rattle.gj_minimal.proofs.points.least_denominator.Goals as goal

pub returns-clause-least : goal.returns-clause-least
returns-clause-least c =
    let limit = c.args.limit in
    let total = c.args.total in
    let total_is = to_z-of_z w64 c.args.total c.ranges.total in
    let limit_is = to_z-of_z w64 c.args.limit c.ranges.limit in
    let size : c.unsigned_abs.result ≡ unsigned_abs c.args.total = c.unsigned_abs.ensures.value
    ∙ ap unsigned_abs total_is in
    let divisor : c.unsigned_abs-2.result ≡ unsigned_abs c.args.limit =
    c.unsigned_abs-2.ensures.value
    ∙ ap unsigned_abs limit_is in
    let n_is = c.from-2.ensures in
    let positive : pos 0 ≤ℤ c.args.total = grind (arith, ints, c.if-total-lt0.false) in
    let h : c.args.n + unsigned_abs c.args.total / unsigned_abs c.args.limit + 1
    ≡ c.from-2.result + c.unsigned_abs.result / c.unsigned_abs-2.result + 1 =
    ap₂ (λ (m d : ℕ). m + d + 1) (sym n_is) (ap₂ (λ (t d : ℕ). t / d) (sym size) (sym divisor)) in
    subst (IsLeastFrom c.args.n (λ h. (pos (h - c.args.n) *ℤ c.args.limit +ℤ c.args.total)
    <ℤ pos 0)) h
    (least_from_quotient c.args.n limit total c.requires.negative positive)
