-- When a fraction in lowest terms is k/order.
use Rattle.std.proofs.Common.{◌≡◌, ℕ, ◌*◌, ◌/◌, ◌%◌, ◌<◌, ◌≤◌, ℤ, pos, negsuc, ◌*ℤ◌, refl, sym, ap, ◌∙◌, arith}
use Rattle.std.proofs.Math.Nat.{mul_comm, mul_assoc, eq_of_mul-eq-mul_right, mul-div_cancel', mul-le-mul_left}
use Rattle.std.proofs.lemmas.Nat.Gcd.{mod-eq-zero_of_dvd, dvd_of_mod-eq-zero, le_of_dvd}
use Rattle.std.proofs.lemmas.Int.{ints}
use Rattle.std.specs.Int.{◌∣◌}
use Rattle.gj_shape.specs.Given.{IsOrder}
use Rattle.gj_frac.specs.Lowest.{IsLowest}
use Rattle.gj_lemmas.proofs.Divisors.{whole_multiple}
use Rattle.gj_lemmas.proofs.Integers.{mul_comm_z, mul_lt_mul_right_z}

-- the parts of a fraction in lowest terms that is k/order
pub record IsPlaceOf (num den : ℤ) (order k : ℕ) : Type 0 where
  pub n : ℕ
  pub d : ℕ
  pub num_is : num ≡ pos n
  pub den_is : den ≡ pos d
  pub num_at_most : n ≤ k
  pub den_at_most : d ≤ order
  pub divides : order % d ≡ 0
  pub place_is : n * (order / d) ≡ k

parts_of_place : (n d order k : ℕ) → 0 < d → 0 < order → d ∣ order → n * order ≡ k * d →
    IsPlaceOf (pos n) (pos d) order k
parts_of_place n d order k some some_order h e =
    let whole : d * (order / d) ≡ order = mul-div_cancel' d h in
    let place : n * (order / d) ≡ k =
    eq_of_mul-eq-mul_right d some (n * (order / d)) k
    (mul_assoc n (order / d) d ∙ ap (λ m. n * m) (mul_comm (order / d) d ∙ whole) ∙ e) in
    let no : order / d ≡ 0 → ⊥ = λ z. let e0 = ap (λ m. d * m) z in omega arith in
    let factor : 0 < order / d = omega (arith, no) in
    let most : n * 1 ≤ n * (order / d) = mul-le-mul_left n factor in
    record {
      n = n;
      d = d;
      num_is = refl;
      den_is = refl;
      num_at_most = omega arith;
      den_at_most = le_of_dvd some_order h;
      divides = mod-eq-zero_of_dvd d h;
      place_is = place;
    }

pub place_parts : (num den : ℤ) (order k : ℕ) → IsLowest num den → 0 < order →
    num *ℤ pos order ≡ pos k *ℤ den →
    IsPlaceOf num den order k
place_parts (pos n) (pos d) order k low some e =
    parts_of_place n d order k (omega (arith, ints, low.positive)) some
    (whole_multiple (pos n) (pos k) d order low.coprime (mul_comm_z (pos order) (pos n) ∙ e))
    (omega (arith, ints, e))
place_parts (negsuc n) (pos d) order k low some e =
    let below = mul_lt_mul_right_z (negsuc n) (pos 0) (pos order) (omega (arith, ints))
    (omega (arith, ints)) in
    absurd (omega (arith, ints, e))
place_parts num (negsuc d) order k low some e = absurd (omega (arith, ints, low.positive))

-- the number read for the place is the place
pub place_found : (num den : ℤ) (n d order k : ℕ) → num ≡ pos n → den ≡ pos d → order % d ≡ 0 →
    k ≡ n * (order / d) →
    num *ℤ pos order ≡ pos k *ℤ den
place_found num den n d order k num_is den_is divides k_is =
    let whole : d * (order / d) ≡ order = mul-div_cancel' d (dvd_of_mod-eq-zero d divides) in
    let same : n * order ≡ k * d =
    ap (λ m. n * m) (sym whole ∙ mul_comm d (order / d)) ∙ sym (mul_assoc n (order / d) d)
    ∙ ap (λ m. m * d) (sym k_is) in
    ap (λ z. z *ℤ pos order) num_is ∙ ap pos same ∙ ap (λ z. pos k *ℤ z) (sym den_is)

pub some_order : (order : ℕ) → IsOrder order → 0 < order
some_order order h = omega (arith, h.0)

-- the product that is computed for the place is the place
pub product_is : (num den : ℤ) (n d order k : ℕ) → num ≡ pos n → den ≡ pos d →
    IsPlaceOf num den order k →
    n * (order / d) ≡ k
product_is num den n d order k num_is den_is p =
    let same_n : n ≡ p.n = omega (arith, ints, num_is, p.num_is) in
    let same_d : d ≡ p.d = omega (arith, ints, den_is, p.den_is) in
    ap (λ m. m * (order / d)) same_n ∙ ap (λ m. p.n * (order / m)) same_d ∙ p.place_is
