-- Products of fractions with small parts.
use Rattle.std.proofs.Common.{inr, ◌≡◌, ◌*◌, ◌/◌, ◌<◌, ◌≤◌, ◌^◌, ℤ, pos, ◌*ℤ◌, ◌<ℤ◌, unsigned_abs, int_div, refl, sym, ap, subst, ◌∙◌, arith}
use Rattle.std.proofs.Math.Nat.{div-mul_cancel, dvd-mul_right, le-mul_of_pos_right, mul-le-mul}
use Rattle.std.proofs.lemmas.Int.{ints, unsigned_abs-mul}
use Rattle.std.specs.Int.{◌∣◌}
use Rattle.gj_frac.specs.declared.Frac.{Frac}
use Rattle.gj_frac.specs.Fits.{FitsProduct}
use Rattle.gj_frac.specs.Fraction.{Fits, IsRatio}
use Rattle.gj_frac.specs.Lowest.{IsLowest}
use Rattle.gj_frac.proofs.Reduced.{quotient_of_divisor, coprime_signed_quotients, same_from_multiples, divisor_of_positive}
use Rattle.gj_lemmas.proofs.Divisors.{gcd_exists, gcd_positive, quotient_times}
use Rattle.gj_lemmas.proofs.Integers.{abs_positive_z, positive_some_z, mul_positive_z}

-- each ratio of parts that fit is a fraction
ratio_exists : (n d : ℤ) → pos 0 <ℤ d → Fits n → Fits d → (z : Frac) × IsRatio z n d
ratio_exists n d some n_fits d_fits =
    let (g, h) = gcd_exists (unsigned_abs n) (unsigned_abs d) in
    let g_some : 0 < g = gcd_positive _ _ g h (inr (abs_positive_z d some)) in
    let p = int_div n (pos g) in
    let q = unsigned_abs d / g in
    let p_is : p *ℤ pos g ≡ n = quotient_of_divisor n (pos g) h.0 in
    let q_is : pos q *ℤ pos g ≡ d = quotient_times d g some h.1 in
    let p_size : unsigned_abs p * g ≡ unsigned_abs n = sym (unsigned_abs-mul p (pos g))
    ∙ ap unsigned_abs p_is in
    let p_small : unsigned_abs p ≤ unsigned_abs p * g =
    le-mul_of_pos_right (unsigned_abs p) g_some in
    let q_size : q * g ≡ unsigned_abs d = div-mul_cancel g h.1 in
    let q_small = divisor_of_positive q (unsigned_abs d) (positive_some_z d some)
    (subst (λ m. q ∣ m) q_size (dvd-mul_right q g)) in
    let q_some = q_small.0 in
    let q_low = q_small.1 in
    let lowest : IsLowest p (pos q) = record {
      positive = omega (arith, ints);
      num_fits = omega arith;
      den_fits = omega arith;
      coprime = coprime_signed_quotients n d (pos g) p (pos q) h g_some p_is q_is;
    } in (
      record { num = p; den = pos q; lowest = lowest },
      same_from_multiples p (pos q) p (pos q)
          (pos g) n d p_is q_is refl,
    )

-- a product of parts of at most 2^62 fits
product_fits : (n m : ℤ) → unsigned_abs n ≤ 2 ^ 62 → unsigned_abs m ≤ 2 ^ 62 → Fits (n *ℤ m)
product_fits n m n_small m_small =
    let size = unsigned_abs-mul n m in
    let bound = mul-le-mul n_small m_small in
    omega arith

-- fractions with parts of at most 2^62 can be multiplied
pub small_product : (x y : Frac) → unsigned_abs x.num ≤ 2 ^ 62 → unsigned_abs x.den ≤ 2 ^ 62 →
    unsigned_abs y.num ≤ 2 ^ 62 →
    unsigned_abs y.den ≤ 2 ^ 62 → FitsProduct x y
small_product x y x_num x_den y_num y_den =
    ratio_exists (x.num *ℤ y.num) (x.den *ℤ y.den)
    (mul_positive_z x.den y.den x.lowest.positive y.lowest.positive)
    (product_fits x.num y.num x_num y_num) (product_fits x.den y.den x_den y_den)
