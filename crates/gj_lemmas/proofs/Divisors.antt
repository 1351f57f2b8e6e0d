-- Greatest common divisors and least common multiples.
use Rattle.std.proofs.Common.{◌≡◌, ℕ, zero, suc, ◌*◌, ◌/◌, ◌%◌, ◌<◌, ◌≤◌, ◌⊎◌, ⊎_elim, ℤ, pos, ◌*ℤ◌, ◌<ℤ◌, unsigned_abs, refl, sym, ap, subst, subst₂, ◌∙◌, arith}
use Rattle.std.proofs.Math.Nat.{mul_comm, mul_assoc, mul_right_comm, one-mul, mul-zero, eq_of_mul-eq-mul_right, pos_of_dvd_of_pos, dvd-mul_left, dvd-mul_right, mul-dvd-mul_right, dvd_of_mul-dvd-mul_right, mul-div_cancel', div-mul_cancel, one-dvd, mul-pos}
use Rattle.std.specs.Int.{IsGcd, ◌∣◌}
use Rattle.std.proofs.lemmas.Nat.Gcd.{IsGcd-from_zero, IsGcd-from_mod, same_from_IsGcd, IsGcd-swap, dvd-zero, dvd_trans, dvd_antisymm}
use Rattle.std.proofs.lemmas.Int.{ints, unsigned_abs-mul}
use Rattle.gj_lemmas.specs.Divisors.{gcd_of, gcd_within}
pub use Rattle.gj_lemmas.specs.Divisors.{IsLcm}
use Rattle.gj_lemmas.proofs.Integers.{mul_left_comm_z, mul_cancel_right_z, abs_positive_z, pos_abs_z}

-- ---- divisors

-- what a divisor is times to give the number
pub cofactor : (a b : ℕ) → a ∣ b → (c : ℕ) × (b ≡ a * c)
cofactor a b h = (b / a, sym (mul-div_cancel' a h))

-- a factor of a product divides it
pub divides_product : (a b c : ℕ) → b ≡ a * c → a ∣ b
divides_product a b c e = subst (λ n. a ∣ n) (sym e) (dvd-mul_right a c)

-- ---- existence

-- Euclid's algorithm ends with the greatest common divisor
gcd_within_is : (steps a b : ℕ) → b ≤ steps → IsGcd a b (gcd_within steps a b)
unfolding gcd_within
gcd_within_is zero a b h = IsGcd-from_zero a b (omega arith)
gcd_within_is (suc steps) a zero h = IsGcd-from_zero a zero refl
gcd_within_is (suc steps) a (suc b) h =
    let small : a % suc b ≤ steps = omega arith in
    IsGcd-from_mod a (suc b) (gcd_within steps (suc b) (a % suc b))
    (gcd_within_is steps (suc b) (a % suc b) small)

pub gcd_of_is : (a b : ℕ) → IsGcd a b (gcd_of a b)
unfolding gcd_of
gcd_of_is a b = gcd_within_is b a b (omega arith)

-- any two numbers have a greatest common divisor
pub gcd_exists : (a b : ℕ) → (g : ℕ) × IsGcd a b g
gcd_exists a b = (gcd_of a b, gcd_of_is a b)

-- no other number is one
pub gcd_is_gcd_of : (a b g : ℕ) → IsGcd a b g → g ≡ gcd_of a b
gcd_is_gcd_of a b g h = same_from_IsGcd a b g (gcd_of a b) h (gcd_of_is a b)

-- it is positive if one of the two is
pub gcd_positive : (a b g : ℕ) → IsGcd a b g → (0 < a) ⊎ (0 < b) → 0 < g
gcd_positive a b g h some = ⊎_elim (pos_of_dvd_of_pos h.0) (pos_of_dvd_of_pos h.1) some

-- ---- multiples and quotients

-- the divisors of two multiples of a positive k divide k times the greatest common divisor
scaled_greatest : (a b g k : ℕ) → IsGcd a b g → 0 < k → (d : ℕ) → d ∣ a * k → d ∣ b * k → d ∣ g * k
scaled_greatest a b g k h some d p q =
    let (c, common) = gcd_exists (a * k) (b * k) in
    let (m, e) = cofactor k c (common.2 k (dvd-mul_left k a) (dvd-mul_left k b)) in
    let is : c ≡ m * k = e ∙ mul_comm k m in
    let first : m ∣ a = dvd_of_mul-dvd-mul_right m some (subst (λ n. n ∣ a * k) is common.0) in
    let second : m ∣ b = dvd_of_mul-dvd-mul_right m some (subst (λ n. n ∣ b * k) is common.1) in
    let all : c ∣ g * k =
    subst (λ n. n ∣ g * k) (sym is) (mul-dvd-mul_right m (h.2 m first second) k) in
    dvd_trans d (common.2 d p q) all

-- both numbers times k have k times the greatest common divisor
pub gcd_scaled : (a b g k : ℕ) → IsGcd a b g → IsGcd (a * k) (b * k) (g * k)
gcd_scaled a b g zero h = simp mul-zero (dvd-zero 0, dvd-zero 0, λ d p q. p)
gcd_scaled a b g (suc k) h = (
  mul-dvd-mul_right g h.0 (suc k),
  mul-dvd-mul_right g h.1 (suc k),
  scaled_greatest a b g (suc k) h (omega arith),
)

-- the quotients by the greatest common divisor have only 1 in common
pub gcd_quotients : (a b g : ℕ) → IsGcd (a * g) (b * g) g → 0 < g → IsGcd a b 1
gcd_quotients a b g h some = (
  one-dvd a,
  one-dvd b,
  λ d p q. dvd_of_mul-dvd-mul_right d some
      (subst (λ n. d * g ∣ n) (sym (one-mul g))
      (h.2 (d * g) (mul-dvd-mul_right d p g) (mul-dvd-mul_right d q g))),
)

-- a positive number is its quotient by a divisor, times the divisor
pub quotient_times : (n : ℤ) (g : ℕ) → pos 0 <ℤ n → g ∣ unsigned_abs n →
    pos (unsigned_abs n / g) *ℤ pos g ≡ n
quotient_times n g some h = ap pos (div-mul_cancel g h) ∙ pos_abs_z n (omega (arith, ints))

-- each of two positive numbers times the other's quotient by the greatest common divisor
pub crossed_quotients : (n m : ℤ) (g : ℕ) → pos 0 <ℤ n → pos 0 <ℤ m →
    IsGcd (unsigned_abs n) (unsigned_abs m) g →
    pos (unsigned_abs n / g) *ℤ m ≡ pos (unsigned_abs m / g) *ℤ n
crossed_quotients n m g n_some m_some h =
    let p = pos (unsigned_abs n / g) in
    let q = pos (unsigned_abs m / g) in
    ap (λ z. p *ℤ z) (sym (quotient_times m g m_some h.1)) ∙ mul_left_comm_z p q (pos g)
    ∙ ap (λ z. q *ℤ z) (quotient_times n g n_some h.0)

-- ---- numbers that have only 1 in common

-- Gauss' lemma: a divisor of b c that has only 1 in common with b divides c
pub gauss : (a b c : ℕ) → IsGcd a b 1 → a ∣ b * c → a ∣ c
gauss a b c h p =
    subst (λ n. a ∣ n) (one-mul c) ((gcd_scaled a b 1 c h).2 a (dvd-mul_right a c) p)

-- the product of two divisors of n that have only 1 in common divides n
pub coprime_divisors : (a b n : ℕ) → IsGcd a b 1 → a ∣ n → b ∣ n → a * b ∣ n
coprime_divisors a b n h p q =
    let (x, n_is) = cofactor a n p in
    let (y, x_is) = cofactor b x (gauss b a x (IsGcd-swap a b 1 h) (subst (λ m. b ∣ m) n_is q)) in
    divides_product (a * b) n y (n_is ∙ ap (λ m. a * m) x_is ∙ sym (mul_assoc a b y))

-- what divides a number that has only 1 in common with b has only 1 in common with b
pub coprime_divisor : (a b d : ℕ) → IsGcd a b 1 → d ∣ a → IsGcd d b 1
coprime_divisor a b d h p = (one-dvd d, one-dvd b, λ c u v. h.2 c (dvd_trans c u p) v)

-- what has only 1 in common with b and with c has only 1 in common with b c
pub coprime_product : (a b c : ℕ) → IsGcd a b 1 → IsGcd a c 1 → IsGcd a (b * c) 1
coprime_product a b c h k =
    (one-dvd a, one-dvd (b * c), λ d u v. k.2 d u (gauss d b c (coprime_divisor a b d h u) v))

-- the denominator in lowest terms divides each multiplier that makes the fraction whole
pub denominator_divides : (n : ℤ) (d k : ℕ) → IsGcd (unsigned_abs n) d 1 → d ∣ k * unsigned_abs n →
    d ∣ k
denominator_divides n d k h p =
    gauss d (unsigned_abs n) k (IsGcd-swap (unsigned_abs n) d 1 h)
    (subst (λ m. d ∣ m) (mul_comm k (unsigned_abs n)) p)

-- if n/d is in lowest terms and k n/d is the whole number q, d divides k
pub whole_multiple : (n q : ℤ) (d k : ℕ) → IsGcd (unsigned_abs n) d 1 → pos k *ℤ n ≡ q *ℤ pos d →
    d ∣ k
whole_multiple n q d k h e =
    let sizes : k * unsigned_abs n ≡ unsigned_abs q * d =
    sym (unsigned_abs-mul (pos k) n) ∙ ap unsigned_abs e ∙ unsigned_abs-mul q (pos d) in
    denominator_divides n d k h (subst (λ m. d ∣ m) (sym sizes) (dvd-mul_left d (unsigned_abs q)))

-- ---- lowest terms

-- equal fractions in lowest terms have equal parts
pub same_ratio_nat : (a b c d : ℕ) → IsGcd a b 1 → IsGcd c d 1 → 0 < b → 0 < d → a * d ≡ c * b →
    (a ≡ c) × (b ≡ d)
same_ratio_nat a b c d h k b_some d_some e =
    let first : b ∣ d = gauss b a d (IsGcd-swap a b 1 h)
    (subst (λ n. b ∣ n) (sym e) (dvd-mul_left b c)) in
    let second : d ∣ b =
    gauss d c b (IsGcd-swap c d 1 k) (subst (λ n. d ∣ n) e (dvd-mul_left d a)) in
    let same : b ≡ d = dvd_antisymm first second in
    (eq_of_mul-eq-mul_right d d_some a c (e ∙ ap (λ n. c * n) same), same)

-- the same with a sign in the numerators
pub same_ratio : (n d m e : ℤ) → IsGcd (unsigned_abs n) (unsigned_abs d) 1 →
    IsGcd (unsigned_abs m) (unsigned_abs e) 1 → pos 0 <ℤ d → pos 0 <ℤ e → n *ℤ e ≡ m *ℤ d →
    (n ≡ m) × (d ≡ e)
same_ratio n d m e h k d_some e_some same =
    let sizes = sym (unsigned_abs-mul n e) ∙ ap unsigned_abs same ∙ unsigned_abs-mul m d in
    let parts = same_ratio_nat _ _ _ _ h k (abs_positive_z d d_some)
    (abs_positive_z e e_some) sizes in
    let abs_same = parts.1 in
    let below : d ≡ e = omega (arith, ints) in
    let some = abs_positive_z e e_some in
    (mul_cancel_right_z n m e (same ∙ ap (λ z. m *ℤ z) below) (omega arith), below)

-- ---- the least common multiple

-- what a' g and b' g divide, a' b' g divides, if a' and b' have only 1 in common
common_multiple : (a b g c : ℕ) → IsGcd a b 1 → 0 < g → a * g ∣ c → b * g ∣ c → a * b * g ∣ c
common_multiple a b g c h some p q =
    let (y, from) = cofactor g c (dvd_trans g (dvd-mul_left g a) p) in
    let c_is : c ≡ y * g = from ∙ mul_comm g y in
    let first : a ∣ y = dvd_of_mul-dvd-mul_right a some (subst (λ n. a * g ∣ n) c_is p) in
    let second : b ∣ y = dvd_of_mul-dvd-mul_right b some (subst (λ n. b * g ∣ n) c_is q) in
    subst (λ n. a * b * g ∣ n) (sym c_is)
    (mul-dvd-mul_right (a * b) (coprime_divisors a b y h first second) g)

-- it is the one number times the other's quotient by the greatest common divisor
pub lcm_from_gcd : (a b g a' : ℕ) → IsGcd a b g → a ≡ a' * g → 0 < g → IsLcm a b (a' * b)
lcm_from_gcd a b g a' h a_is some =
    let (b', b_from) = cofactor g b h.1 in
    let b_is : b ≡ b' * g = b_from ∙ mul_comm g b' in
    let apart : IsGcd a' b' 1 =
    gcd_quotients a' b' g (subst₂ (λ m n. IsGcd m n g) a_is b_is h) some in
    let product : a' * b ≡ a' * b' * g = ap (λ n. a' * n) b_is ∙ sym (mul_assoc a' b' g) in (
      divides_product a (a' * b) b' (product ∙ mul_right_comm a' b' g
          ∙ ap (λ n. n * b') (sym a_is)),
      dvd-mul_left b a',
      λ c p q. subst (λ n. n ∣ c) (sym product)
          (common_multiple a' b' g c apart some (subst (λ n. n ∣ c) a_is p)
          (subst (λ n. n ∣ c) b_is q)),
    )

-- it is positive if both are
pub lcm_positive : (a b m : ℕ) → IsLcm a b m → 0 < a → 0 < b → 0 < m
lcm_positive a b m h a_some b_some =
    pos_of_dvd_of_pos (h.2 (a * b) (dvd-mul_right a b) (dvd-mul_left b a)) (mul-pos a_some b_some)
