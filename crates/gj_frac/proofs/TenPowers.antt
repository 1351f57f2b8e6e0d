-- Powers of 10, and what the factors 2 and 5 leave of a fraction over one.
use Rattle.std.proofs.Common.{◌≡◌, ◌≢◌, ◌⊎◌, ⊎_elim, ℕ, zero, suc, ◌+◌, ◌-◌, ◌*◌, ◌/◌, ◌%◌, ◌^◌, ◌<◌, ◌≤◌, List, [], ◌∷◌, get_or, Bool, true, false, not, ℤ, pos, ◌*ℤ◌, neg_ℤ, unsigned_abs, refl, sym, ap, subst, ◌∙◌, arith, min, w64, to_z}
use Rattle.std.specs.Int.{IsGcd, trailing_zeros}
use Rattle.std.specs.Int.Signed.{lt_z_yes, lt_z_no}
use Rattle.std.proofs.Math.Nat.{mul_assoc, mul_comm, one-dvd, pow-suc, pow-le-pow_right, mul-le-mul, mul-div_cancel, mul-pos, one-le-pow, mod-eq_of_lt}
use Rattle.std.proofs.lemmas.Nat.{pow-add, mul-pow, pow_pos}
use Rattle.std.proofs.lemmas.Nat.Gcd.{IsGcd-from_zero, IsGcd-from_mod}
use Rattle.std.proofs.lemmas.Int.{ints, to_z_pos}
use Rattle.std.proofs.Math.IntN.{neg_ℤ-neg_ℤ}
use Rattle.gj_frac.specs.Lowest.{IsLowest}
use Rattle.gj_frac.specs.Fraction.{with_sign}
use Rattle.gj_lemmas.proofs.Integers.{neg_mul_z}
use Rattle.gj_lemmas.proofs.Divisors.{coprime_product}
use lib.Dec.{T}
use lib.Signed.{lt_z}
use mir.Syntax.{w128}
use Rattle.gj_frac.proofs.OddParts.{coprime_power, odd_power, twos_part}
use Rattle.gj_frac.proofs.Reduced.{same_from_multiples}

-- ---- powers of 10

-- those within the limit
pub ten_small : (e : ℕ) → e ≤ 38 → 10 ^ e < 2 ^ 127
ten_small e h =
    let below : 10 ^ e ≤ 10 ^ 38 = pow-le-pow_right (omega arith) h in
    omega arith

-- one as it is read
pub read_ten : (power e : ℕ) → power ≡ 10 ^ e → e ≤ 38 → to_z w128 power ≡ pos (10 ^ e)
read_ten power e is h =
    let small = ten_small e h in
    to_z_pos w128 power (omega arith) ∙ ap pos is

pub ten_large : (e : ℕ) → 38 < e → ¬ (10 ^ e < 2 ^ 127)
ten_large e h small =
    let above : 10 ^ 39 ≤ 10 ^ e = pow-le-pow_right (omega arith) h in
    omega arith

-- n numbers from p on, each ten times the one before it
abbrev pub tens_from : ℕ → ℕ → List ℕ
tens_from p zero = []
tens_from p (suc n) = p ∷ tens_from (p * 10) n

pub ten_at : (p n i d : ℕ) → i < n → get_or (tens_from p n) i d ≡ p * 10 ^ i
ten_at p zero i d l = absurd (omega arith)
ten_at p (suc n) zero d l = omega arith
ten_at p (suc n) (suc i) d l =
    ten_at (p * 10) n i d (omega arith) ∙ mul_assoc p 10 (10 ^ i)
    ∙ ap (λ k. p * k) (mul_comm 10 (10 ^ i) ∙ sym (pow-suc 10 i))

-- ---- the factors of 10

-- no number but 1 divides 5 and a positive number below it
below_five : (r : ℕ) → r ≢ 0 → r < 5 → IsGcd 5 r 1
below_five zero some low = absurd (some refl)
below_five (suc zero) some low = IsGcd-from_mod 5 1 1 (IsGcd-from_zero 1 (5 % 1) refl)
below_five (suc (suc zero)) some low =
    IsGcd-from_mod 5 2 1 (IsGcd-from_mod 2 1 1 (IsGcd-from_zero 1 (2 % 1) refl))
below_five (suc (suc (suc zero))) some low =
    IsGcd-from_mod 5 3 1
    (IsGcd-from_mod 3 2 1 (IsGcd-from_mod 2 1 1 (IsGcd-from_zero 1 (2 % 1) refl)))
below_five (suc (suc (suc (suc zero)))) some low =
    IsGcd-from_mod 5 4 1 (IsGcd-from_mod 4 1 1 (IsGcd-from_zero 1 (4 % 1) refl))
below_five (suc (suc (suc (suc (suc r))))) some low = absurd (omega arith)

-- nor a number and the fives that it has none of
apart_from_fives : (a f : ℕ) → (f ≡ 0) ⊎ (a % 5 ≢ 0) → IsGcd a (5 ^ f) 1
apart_from_fives a f = ⊎_elim
    (λ none. subst (λ k. IsGcd a (5 ^ k) 1) (sym none) (one-dvd a, one-dvd 1, λ d u v. v))
    (λ other. coprime_power a 5 f (IsGcd-from_mod a 5 1 (below_five (a % 5) other (omega arith))))

apart_from_twos : (a t : ℕ) → (t ≡ 0) ⊎ (a % 2 ≡ 1) → IsGcd a (2 ^ t) 1
apart_from_twos a t = ⊎_elim
    (λ none. subst (λ k. IsGcd a (2 ^ k) 1) (sym none) (one-dvd a, one-dvd 1, λ d u v. v))
    (odd_power a t)

-- so many fives and twos fit 64 bits
short_tens : (f t : ℕ) → f ≤ 19 → t ≤ 19 → 5 ^ f * 2 ^ t < 2 ^ 64
short_tens f t few few' =
    let fives : 5 ^ f ≤ 5 ^ 19 = pow-le-pow_right (omega arith) few in
    let twos : 2 ^ t ≤ 2 ^ 19 = pow-le-pow_right (omega arith) few' in
    let both : 5 ^ f * 2 ^ t ≤ 5 ^ 19 * 2 ^ 19 = mul-le-mul fives twos in
    omega arith

-- a number with none of the fives and none of the twos below it is in lowest terms over their
-- product
pub lowest_over_tens : (a f t : ℕ) → a < 2 ^ 64 → f ≤ 19 → t ≤ 19 → (f ≡ 0) ⊎ (a % 5 ≢ 0) →
    (t ≡ 0) ⊎ (a % 2 ≡ 1) →
    IsLowest (pos a) (pos (5 ^ f * 2 ^ t))
lowest_over_tens a f t small few few' fives twos =
    let some : 0 < 5 ^ f * 2 ^ t =
    mul-pos (one-le-pow f 5 (omega arith)) (one-le-pow t 2 (omega arith)) in
    let below = short_tens f t few few' in
    record {
      positive = omega (arith, ints);
      num_fits = omega arith;
      den_fits = omega arith;
      coprime = coprime_product a (5 ^ f) (2 ^ t) (apart_from_fives a f fives)
          (apart_from_twos a t twos);
    }

-- that product as shifts make it of a power of 10
pub shifted_ten : (power f t : ℕ) → power ≡ 10 ^ f → f ≤ 19 → t ≤ 19 →
    power / 2 ^ f * 2 ^ t % 2 ^ 64 ≡ 5 ^ f * 2 ^ t
shifted_ten power f t is few few' =
    let fives : power / 2 ^ f ≡ 5 ^ f = ap (λ n. n / 2 ^ f) (is ∙ mul-pow 5 2 f)
    ∙ mul-div_cancel (5 ^ f) (pow_pos f) in
    ap (λ m. m * 2 ^ t % 2 ^ 64) fives ∙ mod-eq_of_lt (short_tens f t few few')

-- ---- factors taken out of a fraction

-- one more five taken out of a multiple of 5
pub one_five_out : (rest fives left top : ℕ) → 0 < left → left ≤ fives → rest % 5 ≡ 0 →
    rest * 5 ^ (fives - left) ≡ top →
    rest / 5 * 5 ^ (fives - (left - 1)) ≡ top
one_five_out rest fives left top some fewer multiple is =
    let out = fives - left in
    let more : fives - (left - 1) ≡ suc out = omega arith in
    let whole : rest / 5 * 5 ≡ rest = omega arith in
    ap (λ i. rest / 5 * 5 ^ i) more ∙ ap (λ m. rest / 5 * m) (pow-suc 5 out ∙ mul_comm (5 ^ out) 5)
    ∙ sym (mul_assoc (rest / 5) 5 (5 ^ out)) ∙ ap (λ m. m * 5 ^ out) whole ∙ is

-- the fives that were taken out of the numerator are gone from the denominator
pub fives_out : (rest left top fives t : ℕ) → left ≤ fives → rest * 5 ^ (fives - left) ≡ top →
    rest * (5 ^ fives * 2 ^ t) ≡ top * (5 ^ left * 2 ^ t)
fives_out rest left top fives t fewer is =
    let out = fives - left in
    let all : fives ≡ out + left = omega arith in
    ap (λ m. rest * (m * 2 ^ t)) (ap (λ i. 5 ^ i) all ∙ pow-add 5 out left)
    ∙ ap (λ m. rest * m) (mul_assoc (5 ^ out) (5 ^ left) (2 ^ t))
    ∙ sym (mul_assoc rest (5 ^ out) (5 ^ left * 2 ^ t))
    ∙ ap (λ m. m * (5 ^ left * 2 ^ t)) is

-- n/d is a number over a power of 10, if without t twos of both it is
twos_out : (n d : ℤ) (size top places t : ℕ) → top * 2 ^ t ≡ size → t ≤ places →
    n *ℤ pos (5 ^ places * 2 ^ (places - t)) ≡ pos top *ℤ d → n *ℤ pos (10 ^ places) ≡ pos size *ℤ d
twos_out n d size top places t is fewer =
    let all : places - t + t ≡ places = omega arith in
    let tens : 5 ^ places * 2 ^ (places - t) * 2 ^ t ≡ 10 ^ places =
    mul_assoc (5 ^ places) (2 ^ (places - t)) (2 ^ t)
    ∙ ap (λ m. 5 ^ places * m) (sym (pow-add 2 (places - t) t) ∙ ap (λ i. 2 ^ i) all)
    ∙ sym (mul-pow 5 2 places) in
    same_from_multiples n d (pos top) (pos (5 ^ places * 2 ^ (places - t))) (pos (2 ^ t)) (pos size)
    (pos (10 ^ places)) (ap pos is) (ap pos tens)

-- the same of a number without as many of its twos as it has, but at most those of the power
pub decimal_is : (n d : ℤ) (size twos places : ℕ) → 0 < size → size < 2 ^ 64 →
    twos ≡ min (trailing_zeros w64 size) places →
    n *ℤ pos (5 ^ places * 2 ^ (places - twos)) ≡ pos (size / 2 ^ twos) *ℤ d →
    n *ℤ pos (10 ^ places) ≡ pos size *ℤ d
decimal_is n d size twos places some fits least =
    twos_out n d size (size / 2 ^ twos) places twos (twos_part size twos some fits (omega arith))
    (omega arith)

-- ---- numbers with a sign

-- a fraction in lowest terms stays so with a sign
pub lowest_with_sign : (s : Bool) (n : ℕ) (d : ℤ) → IsLowest (pos n) d → IsLowest (with_sign s n) d
lowest_with_sign false n d h = h
lowest_with_sign true n d h =
    let same : unsigned_abs (neg_ℤ (pos n)) ≡ n = omega (arith, ints) in
    record {
      positive = h.positive;
      num_fits = rw same h.num_fits;
      den_fits = h.den_fits;
      coprime = rw same h.coprime;
    }

-- equal cross products stay equal with a sign
pub product_with_sign : (s : Bool) (m n a b : ℕ) → m * a ≡ n * b →
    with_sign s m *ℤ pos a ≡ with_sign s n *ℤ pos b
product_with_sign false m n a b is = ap pos is
product_with_sign true m n a b is =
    neg_mul_z (pos m) (pos a) ∙ ap (λ k. neg_ℤ (pos k)) is ∙ sym (neg_mul_z (pos n) (pos b))

-- the same of a number with a sign
pub signed_decimal_is : (s : Bool) (n d : ℤ) (size twos places : ℕ) → 0 < size → size < 2 ^ 64 →
    twos ≡ min (trailing_zeros w64 size) places →
    n *ℤ pos (5 ^ places * 2 ^ (places - twos)) ≡ with_sign s (size / 2 ^ twos) *ℤ d →
    n *ℤ pos (10 ^ places) ≡ with_sign s size *ℤ d
signed_decimal_is false n d size twos places some fits least is =
    decimal_is n d size twos places some fits least is
signed_decimal_is true n d size twos places some fits least is =
    let rest = size / 2 ^ twos in
    let tens = pos (5 ^ places * 2 ^ (places - twos)) in
    let turned : neg_ℤ n *ℤ tens ≡ pos rest *ℤ d =
    neg_mul_z n tens ∙ ap neg_ℤ (is ∙ neg_mul_z (pos rest) d) ∙ neg_ℤ-neg_ℤ (pos rest *ℤ d) in
    let value = decimal_is (neg_ℤ n) d size twos places some fits least turned in
    sym (neg_ℤ-neg_ℤ (n *ℤ pos (10 ^ places)))
    ∙ ap neg_ℤ (sym (neg_mul_z n (pos (10 ^ places))) ∙ value) ∙ sym (neg_mul_z (pos size) d)

-- a whole number is its absolute value with its sign
pub sign_and_size : (z : ℤ) → with_sign (lt_z z (pos 0)) (unsigned_abs z) ≡ z
sign_and_size z = by (lt_z z (pos 0)) refl
  where
    by : (t : Bool) → lt_z z (pos 0) ≡ t → with_sign t (unsigned_abs z) ≡ z
    by true e = omega (arith, ints, lt_z_yes {a = z} {b = pos 0} (subst T (sym e) tt))
    by false e = omega (
      arith,
      ints,
      lt_z_no {a = z} {b = pos 0}
          (subst (λ t. T (not t)) (sym e) tt),
    )
