-- Numbers times powers: which fractions have such values.
use Rattle.std.proofs.Common.{◌≡◌, ◌⊎◌, inl, inr, ℕ, zero, suc, ◌+◌, ◌-◌, ◌*◌, ◌^◌}
use Rattle.std.proofs.Common.{◌<◌, ◌≤◌, pos, unsigned_abs, Some, None}
use Rattle.std.proofs.Common.{Result, Ok, Err, IfOk, OnErr, sym, ap, subst, ◌∙◌, arith}
use Rattle.std.specs.Int.{IsGcd, ◌∣◌}
use Rattle.std.specs.Result.{result_ok}
use Rattle.std.proofs.Math.Nat.{mul_comm, mul_assoc, one-le-pow, pow-zero, pow-suc}
use Rattle.std.proofs.Math.Nat.{pow-le-pow_right, pow-le-pow_left, le-mul_of_pos_right, mul-le-mul}
use Rattle.std.proofs.Math.Nat.{mul-pos, eq_of_mul-eq-mul_right}
use Rattle.std.proofs.lemmas.Int.{ints, unsigned_abs-mul}
use Rattle.std.proofs.lemmas.Nat.{pow-add}
use Rattle.std.proofs.lemmas.Nat.Gcd.{IsGcd-swap, le_of_dvd}
use Rattle.gj_lemmas.proofs.Divisors.{cofactor, gcd_exists, gcd_positive, gcd_quotients, gauss}
use Rattle.gj_lemmas.proofs.Divisors.{coprime_divisor, coprime_product, divides_product}
use Rattle.gj_lemmas.proofs.Integers.{abs_positive_z}
use Rattle.gj_frac.specs.declared.Frac.{Frac}
use Rattle.gj_frac.specs.Fits.{FitsProduct}
use Rattle.gj_frac.specs.Fraction.{IsRatio, SameValue, fraction_of, product_of}
use Rattle.gj_frac.proofs.Crosswise.{product_is_along, product_fits}
use Rattle.gj_frac.proofs.SameValues.{is_along}

-- ---- powers

-- a power is not 0
pub power_some : (b k : ℕ) → 2 ≤ b → 0 < b ^ k
power_some b k h = one-le-pow k b (omega (arith, h))

-- and at least that of 2
two_at_most : (b k : ℕ) → 2 ≤ b → 2 ^ k ≤ b ^ k
two_at_most b k h = pow-le-pow_left h k

-- one more factor is taken from a power
pub one_power_less : (v b k n : ℕ) → 0 < k → v * b ^ k ≡ n → v * b * b ^ (k - 1) ≡ n
one_power_less v b k n some is =
    let more : k ≡ suc (k - 1) = omega (arith, some) in
    mul_assoc v b (b ^ (k - 1)) ∙ ap (λ m. v * m)
    (mul_comm b (b ^ (k - 1)) ∙ sym (pow-suc b (k - 1)) ∙ ap (λ i. b ^ i) (sym more)) ∙ is

-- what a value with a power is over 1 tells a size
over_one : (x : Frac) (n : ℕ) → IsRatio x (pos n) (pos 1) → n < 2 ^ 127
over_one x n is =
    let sizes : unsigned_abs x.num * 1 ≡ n * unsigned_abs x.den =
    sym (unsigned_abs-mul x.num (pos 1)) ∙ ap unsigned_abs is ∙ unsigned_abs-mul (pos n) x.den in
    let more = le-mul_of_pos_right n (abs_positive_z x.den x.lowest.positive) in
    omega (arith, sizes, more, x.lowest.num_fits)

-- a product that passes the limit is no fraction, with further powers neither
pub no_product : (x : Frac) (v b k n : ℕ) → 2 ≤ b → 0 < k →
    (v * b < 2 ^ 127 → ⊥) → v * b ^ k ≡ n → IsRatio x (pos n) (pos 1) → ⊥
no_product x v b k n base some large is ratio =
    let rest = power_some b (k - 1) base in
    let more = le-mul_of_pos_right (v * b) rest in
    large (omega (arith, more, one_power_less v b k n some is, over_one x n ratio))

-- ---- one value with different powers

pub same_scale : (x : Frac) (top b u v k l : ℕ) → 2 ≤ b → u + l ≡ k + v →
    IsRatio x (pos (top * b ^ u)) (pos (b ^ v)) →
    IsRatio x (pos (top * b ^ k)) (pos (b ^ l))
same_scale x top b u v k l base sum is =
    let some = power_some b v base in
    let cross : top * b ^ u * b ^ l ≡ top * b ^ k * b ^ v =
    mul_assoc top (b ^ u) (b ^ l) ∙ ap (λ m. top * m)
    (sym (pow-add b u l) ∙ ap (λ i. b ^ i) sum ∙ pow-add b k v) ∙ sym
    (mul_assoc top (b ^ k) (b ^ v)) in
    is_along x (pos (top * b ^ u)) (pos (b ^ v)) (pos (top * b ^ k)) (pos (b ^ l))
    (λ e. omega (arith, some, e)) is (ap pos cross)

-- without a power above, and without one below
pub unraised : (x : Frac) (top b d : ℕ) → IsRatio x (pos top) (pos d) →
    IsRatio x (pos (top * b ^ 0)) (pos d)
unraised x top b d is = subst (λ n. IsRatio x (pos n) (pos d))
    (omega (arith, ap (λ m. top * m) (pow-zero b))) is

pub unraised_back : (x : Frac) (top b d : ℕ) → IsRatio x (pos (top * b ^ 0)) (pos d) →
    IsRatio x (pos top) (pos d)
unraised_back x top b d is = subst (λ n. IsRatio x (pos n) (pos d))
    (omega (arith, ap (λ m. top * m) (pow-zero b))) is

pub unlowered : (x : Frac) (n b : ℕ) → IsRatio x (pos n) (pos 1) → IsRatio x (pos n) (pos (b ^ 0))
unlowered x n b is = subst (λ d. IsRatio x (pos n) (pos d)) (sym (pow-zero b)) is

pub unlowered_back : (x : Frac) (n b : ℕ) → IsRatio x (pos n) (pos (b ^ 0)) →
    IsRatio x (pos n) (pos 1)
unlowered_back x n b is = subst (λ d. IsRatio x (pos n) (pos d)) (pow-zero b) is

-- ---- powers that are too large

-- a number above 0 with so large a power is no fraction
too_high : (x : Frac) (top b u : ℕ) → 2 ≤ b → 0 < top → 127 ≤ u →
    IsRatio x (pos (top * b ^ u)) (pos 1) → ⊥
too_high x top b u base some high is =
    let two : 2 ^ 127 ≤ 2 ^ u = pow-le-pow_right (omega arith) high in
    let power = two_at_most b u base in
    let more = le-mul_of_pos_right (b ^ u) some in
    omega (arith, over_one x (top * b ^ u) is, two, power, more, mul_comm (b ^ u) top)

too_low : (x : Frac) (top b v : ℕ) → 2 ≤ b → 0 < top → top < 2 ^ 127 → 254 ≤ v →
    IsRatio x (pos top) (pos (b ^ v)) → ⊥
too_low x top b v base some small low is =
    let p = unsigned_abs x.num in
    let q = unsigned_abs x.den in
    let sizes : p * b ^ v ≡ top * q = sym (unsigned_abs-mul x.num (pos (b ^ v)))
    ∙ ap unsigned_abs is ∙ unsigned_abs-mul (pos top) x.den in
    let q_some = abs_positive_z x.den x.lowest.positive in
    let two : 2 ^ 254 ≤ 2 ^ v = pow-le-pow_right (omega arith) low in
    let power = two_at_most b v base in
    let bound : top * q ≤ (2 ^ 127 - 1) * (2 ^ 127 - 1) =
    mul-le-mul {n₁ = top} {m₁ = q} {n₂ = 2 ^ 127 - 1} {m₂ = 2 ^ 127 - 1} (omega (arith, small))
    (omega (arith, x.lowest.den_fits)) in
    let product = mul-pos some q_some in
    let p_some : 0 < p = positive_factor p (b ^ v) (omega (arith, sizes, product)) in
    let more = le-mul_of_pos_right (b ^ v) p_some in
    omega (arith, sizes, two, power, bound, more, mul_comm (b ^ v) p)
  where
    positive_factor : (m n : ℕ) → 0 < m * n → 0 < m
    positive_factor zero n h = omega (arith, h)
    positive_factor (suc m) n h = omega arith

-- so the exponent of a fraction is small
pub too_large : (x : Frac) (top b u v : ℕ) → 2 ≤ b → 0 < top → top < 2 ^ 127 →
    (v + 127 ≤ u) ⊎ (u + 254 ≤ v) →
    IsRatio x (pos (top * b ^ u)) (pos (b ^ v)) → ⊥
too_large x top b u v base some small (inl high) is =
    too_high x top b (u - v) base some (omega (arith, high))
    (unlowered_back x _ b (same_scale x top b u v (u - v) 0 base (omega (arith, high)) is))
too_large x top b u v base some small (inr low) is =
    too_low x top b (v - u) base some small (omega (arith, low))
    (unraised_back x top b _ (same_scale x top b u v 0 (v - u) base (omega (arith, low)) is))

-- 0 is 0 with any power
pub zero_scaled : (x : Frac) (n d : ℕ) → n ≡ 0 → IsRatio x (pos 0) (pos 1) →
    IsRatio x (pos n) (pos d)
zero_scaled x n d e is =
    is_along x (pos 0) (pos 1) (pos n) (pos d) (λ h. omega (arith, h)) is
    (ap pos (omega (arith, e)))

-- ---- division by powers

-- if n/(d r) is a fraction, and n fits, so is n/d: its denominator divides that of the other
pub fits_below : (y : Frac) (n d r : ℕ) → 0 < n → n < 2 ^ 127 → 0 < d →
    IsRatio y (pos n) (pos (d * r)) → (w : Frac) × IsRatio w (pos n) (pos d)
fits_below y n d r n_some n_fits d_some is =
    let p = unsigned_abs y.num in
    let q = unsigned_abs y.den in
    let q_some = abs_positive_z y.den y.lowest.positive in
    let sizes : p * (d * r) ≡ n * q =
    sym (unsigned_abs-mul y.num (pos (d * r))) ∙ ap unsigned_abs is ∙ unsigned_abs-mul
    (pos n) y.den in
    let (g, g_is) = gcd_exists r q in
    let g_some = gcd_positive r q g g_is (inr q_some) in
    let (r', r_is) = cofactor g r g_is.0 in
    let (q', q_is) = cofactor g q g_is.1 in
    let r_is' : r ≡ r' * g = r_is ∙ mul_comm g r' in
    let q_is' : q ≡ q' * g = q_is ∙ mul_comm g q' in
    let apart : IsGcd r' q' 1 =
    gcd_quotients r' q' g
    (subst (λ m. IsGcd m (q' * g) g) r_is' (subst (λ m. IsGcd r m g) q_is' g_is)) g_some in
    let apart' : IsGcd p q' 1 =
    IsGcd-swap q' p 1 (coprime_divisor q p q' (IsGcd-swap p q 1 y.lowest.coprime)
    (divides_product q' q g q_is')) in
    let lowest : IsGcd (p * r') q' 1 =
    IsGcd-swap q' (p * r') 1
    (coprime_product q' p r' (IsGcd-swap p q' 1 apart') (IsGcd-swap r' q' 1 apart)) in
    let scaled : p * r' * d * g ≡ n * q' * g =
    regrouped p r' d g ∙ ap (λ m. p * (d * m)) (sym r_is') ∙ sizes ∙ ap (λ m. n * m) q_is' ∙ sym
    (mul_assoc n q' g) in
    let same : p * r' * d ≡ n * q' = eq_of_mul-eq-mul_right g g_some (p * r' * d) (n * q') scaled in
    let divides : p * r' ∣ n =
    gauss (p * r') q' n lowest (divides_product (p * r') (q' * n) d (mul_comm q' n ∙ sym same)) in
    let num_low : p * r' ≤ n = le_of_dvd n_some divides in
    let q'_some : 0 < q' = positive_factor q' g (omega (arith, q_some, q_is')) in
    let den_low : q' ≤ q' * g = le-mul_of_pos_right q' g_some in (
      record {
        num = pos (p * r');
        den = pos q';
        lowest = record {
          positive = omega (arith, ints, q'_some);
          num_fits = omega (arith, num_low, n_fits);
          den_fits = omega (arith, den_low, q_is', y.lowest.den_fits);
          coprime = lowest;
        };
      },
      ap pos same,
    )
  where
    regrouped : (a b c e : ℕ) → a * b * c * e ≡ a * (c * (b * e))
    regrouped a b c e = mul_assoc (a * b) c e ∙ mul_assoc a b (c * e) ∙ ap (λ m. a * m)
        (sym (mul_assoc b c e) ∙ ap (λ m. m * e) (mul_comm b c) ∙ mul_assoc c b e)

    positive_factor : (m k : ℕ) → 0 < m * k → 0 < m
    positive_factor zero k h = omega (arith, h)
    positive_factor (suc m) k h = omega arith

-- x is n/d, and part is 1/b: their product is n/(d b)
pub divided_once : (x part z : Frac) (n d b : ℕ) → IsRatio x (pos n) (pos d) →
    IsRatio part (pos 1) (pos b) →
    SameValue (fraction_of z) (product_of (fraction_of x) (fraction_of part)) →
    IsRatio z (pos n) (pos (d * b))
divided_once x part z n d b x_is part_is h =
    let is = product_is_along x part z (pos n) (pos d) (pos 1) (pos b) x_is part_is h in
    subst (λ m. IsRatio z (pos m) (pos (d * b))) (omega arith)
    (subst (λ m. IsRatio z (pos (n * 1)) (pos m)) (mul_comm b d) is)

-- and if n/(d b) is a fraction, they have one
pub can_divide : (x part z : Frac) (n d b : ℕ) → 0 < d → 0 < b → IsRatio x (pos n) (pos d) →
    IsRatio part (pos 1) (pos b) →
    IsRatio z (pos n) (pos (d * b)) → FitsProduct x part
can_divide x part z n d b d_some b_some x_is part_is h =
    let turned : IsRatio z (pos (n * 1)) (pos (b * d)) =
    subst (λ m. IsRatio z (pos m) (pos (b * d))) (omega arith)
    (subst (λ m. IsRatio z (pos n) (pos m)) (mul_comm d b) h) in
    product_fits x part z (pos n) (pos d) (pos 1) (pos b) x_is part_is
    (λ e. omega (arith, e, b_some)) (λ e. omega (arith, e, d_some)) turned

-- ---- a result as an option

pub ok_value : {X E : Type 0} (r : Result X E) (P : X → Type 0) (x : X) → Some x ≡ result_ok r →
    IfOk r P → P x
ok_value (Ok y) P x e h = let same : y ≡ x = cc in subst P same h
ok_value (Err w) P x e h = absurd (cc)

pub err_case : {X E : Type 0} (r : Result X E) (Q : Type 0) → None ≡ result_ok r → OnErr r Q → Q
err_case (Ok y) Q e h = absurd (cc)
err_case (Err w) Q e h = h
