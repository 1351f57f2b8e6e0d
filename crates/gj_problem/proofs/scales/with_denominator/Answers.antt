use Rattle.std.proofs.Common.{◌≡◌, ◌<◌, ◌≤◌, ◌^◌, ℕ, ℤ, to_z, of_z, ◌*◌, ◌/◌, unsigned_abs, Option, inr, sym, ap, subst, ◌∙◌, arith}
use Rattle.std.specs.Int.{IsGcd, ◌∣◌}
use Rattle.std.specs.Option.{SomeIff}
use Rattle.std.proofs.Math.Nat.{div-mul_cancel, one-dvd, dvd_refl}
use Rattle.gj_frac.proofs.Reduced.{read_part}
use Rattle.gj_lemmas.specs.Divisors.{IsLcm}
use Rattle.gj_lemmas.proofs.Divisors.{gcd_positive, lcm_from_gcd}
use Rattle.gj_lemmas.proofs.Integers.{abs_positive_z}
use Rattle.gj_problem.proofs.AddedSums.{ok_if_some}
use Rattle.gj_problem.proofs.WideRoundings.{err_if_none}
use Rattle.gj_problem.proofs.scales.with_denominator.Goals as goal
use mir.Syntax.{w128}

-- the product that the code makes is the least common multiple
made : (m d g n : ℕ) → n ≡ d → 0 < d → IsGcd m n g → IsLcm m d (m / g * n)
made m d g n d_is some h =
    subst (λ (k : ℕ). IsLcm m k (m / g * n)) d_is
    (lcm_from_gcd m n g (m / g) h (sym (div-mul_cancel g h.0))
    (gcd_positive m n g h (inr (omega (arith, d_is)))))

pub returns-then-d-eq1-clause-multiple : goal.returns-then-d-eq1-clause-multiple
returns-then-d-eq1-clause-multiple c =
    let d = unsigned_abs c.args.x.den in
    let one : d ≡ 1 =
    sym (c.unsigned_abs-d.ensures.value
    ∙ ap (λ (z : ℤ). unsigned_abs (to_z w128 (of_z w128 z))) c.den.ensures
    ∙ ap unsigned_abs (read_part c.args.x.den c.args.x.lowest.den_fits)) ∙ c.if-d-eq1.true in (
      dvd_refl c.args.m,
      subst (λ (k : ℕ). k ∣ c.args.m) (sym one) (one-dvd c.args.m),
      λ k m_divides d_divides. m_divides,
    )

pub nonzero_div-m : goal.nonzero_div-m
nonzero_div-m c =
    let d_is = c.unsigned_abs-d.ensures.value
    ∙ ap (λ (z : ℤ). unsigned_abs (to_z w128 (of_z w128 z))) c.den.ensures
    ∙ ap unsigned_abs (read_part c.args.x.den c.args.x.lowest.den_fits) in
    gcd_positive c.args.m c.unsigned_abs-d.result c.gcd-common.result c.gcd-common.ensures
    (inr (subst (λ (k : ℕ). 0 < k) (sym d_is)
    (abs_positive_z c.args.x.den c.args.x.lowest.positive)))

pub returns-clause-multiple : goal.returns-clause-multiple
returns-clause-multiple c =
    let m = c.args.m in
    let d = unsigned_abs c.args.x.den in
    let n = c.unsigned_abs-d.result in
    let d_is : n ≡ d = c.unsigned_abs-d.ensures.value
    ∙ ap (λ (z : ℤ). unsigned_abs (to_z w128 (of_z w128 z))) c.den.ensures
    ∙ ap unsigned_abs (read_part c.args.x.den c.args.x.lowest.den_fits) in
    let product = m / c.gcd-common.result * n in
    ok_if_some c.ok_or.result c.checked_mul.result (IsLcm m d) c.ok_or.ensures.ok_part
    (λ multiple is.
    let fits = subst (λ (o : Option ℕ). SomeIff o (product < 2 ^ 128) product) is
    c.checked_mul.ensures in
    subst (λ (k : ℕ). IsLcm m d k) (sym fits.1)
    (made m d c.gcd-common.result n d_is (abs_positive_z c.args.x.den c.args.x.lowest.positive)
    c.gcd-common.ensures))

pub returns-clause-wide : goal.returns-clause-wide
returns-clause-wide c =
    let m = c.args.m in
    let d = unsigned_abs c.args.x.den in
    let n = c.unsigned_abs-d.result in
    let d_is : n ≡ d = c.unsigned_abs-d.ensures.value
    ∙ ap (λ (z : ℤ). unsigned_abs (to_z w128 (of_z w128 z))) c.den.ensures
    ∙ ap unsigned_abs (read_part c.args.x.den c.args.x.lowest.den_fits) in
    let product = m / c.gcd-common.result * n in
    err_if_none c.ok_or.result c.checked_mul.result ((k : ℕ) × IsLcm m d k × (2 ^ 128 ≤ k))
    c.ok_or.ensures.ok_part
    (λ is.
    let over : product < 2 ^ 128 →
    ⊥ = subst (λ (o : Option ℕ). SomeIff o (product < 2 ^ 128) product) is
    c.checked_mul.ensures in (
      product,
      made m d c.gcd-common.result n d_is (abs_positive_z c.args.x.den c.args.x.lowest.positive)
          c.gcd-common.ensures,
      omega (arith, over),
    ))
