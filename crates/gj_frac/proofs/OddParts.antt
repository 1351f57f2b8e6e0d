-- Greatest common divisors of odd numbers, and powers of 2 beside them.
use Rattle.std.proofs.Common.{◌≡◌, ℕ, zero, suc, ◌*◌, ◌-◌, ◌+◌, ◌/◌, ◌%◌, ◌^◌, ◌<◌, ◌≤◌, min, max, ◌⊎◌, ⊎_elim, inl, inr, refl, sym, ap, subst, subst₂, ◌∙◌, arith, w64}
use Rattle.std.specs.Int.{IsGcd, ◌∣◌, bit_at, trailing_zeros, abs_diff}
use Rattle.std.proofs.Math.Nat.{mul_comm, mul_assoc, one-dvd, dvd-mul_right, pow-suc, pow-zero, div-div-eq-div-mul}
use Rattle.std.proofs.lemmas.Bool.{cases_lt}
use Rattle.std.proofs.lemmas.Nat.{pow-add}
use Rattle.std.proofs.lemmas.Nat.Bits.{bit_at-trailing_zeros}
use Rattle.std.proofs.lemmas.Nat.Gcd.{IsGcd-from_zero, IsGcd-from_mod, IsGcd-from_sub, IsGcd-swap, dvd_trans}
use Rattle.std.specs.Int.Count.{count_trailing_zeros}
use lib.Count.{under}
use Rattle.gj_lemmas.proofs.Divisors.{gauss, gcd_scaled, coprime_divisor, coprime_product}

-- ---- an odd number beside a power of 2

-- what has only 1 in common with a number has only 1 in common with its powers
pub coprime_power : (a p k : ℕ) → IsGcd a p 1 → IsGcd a (p ^ k) 1
coprime_power a p zero h =
    subst (λ n. IsGcd a n 1) (sym (pow-zero p)) (one-dvd a, one-dvd 1, λ d u v. v)
coprime_power a p (suc k) h =
    subst (λ n. IsGcd a n 1) (sym (pow-suc p k))
    (coprime_product a (p ^ k) p (coprime_power a p k h) h)

odd_two : (a : ℕ) → a % 2 ≡ 1 → IsGcd a 2 1
odd_two a odd =
    IsGcd-from_mod a 2 1
    (subst (λ n. IsGcd 2 n 1) (sym odd) (IsGcd-from_mod 2 1 1 (IsGcd-from_zero 1 (2 % 1) refl)))

-- no number but 1 divides an odd number and a power of 2
pub odd_power : (a k : ℕ) → a % 2 ≡ 1 → IsGcd a (2 ^ k) 1
odd_power a k odd = coprime_power a 2 k (odd_two a odd)

-- a power of 2 beside an odd number does not matter
odd_scaled : (a b g k : ℕ) → a % 2 ≡ 1 → IsGcd a b g → IsGcd a (b * 2 ^ k) g
odd_scaled a b g k odd h = (
  h.0,
  dvd_trans g h.1 (dvd-mul_right b (2 ^ k)),
  λ d p q. h.2 d p (gauss d (2 ^ k) b (coprime_divisor a (2 ^ k) d (odd_power a k odd) p)
      (subst (λ n. d ∣ n) (mul_comm b (2 ^ k)) q)),
)

-- two numbers with powers of 2, the first odd and with the lower one
lower_power : (a b g i k : ℕ) → a % 2 ≡ 1 → IsGcd a b g →
    IsGcd (a * 2 ^ i) (b * 2 ^ (k + i)) (g * 2 ^ i)
lower_power a b g i k odd h =
    let power : b * 2 ^ k * 2 ^ i ≡ b * 2 ^ (k + i) = mul_assoc b (2 ^ k) (2 ^ i)
    ∙ ap (λ n. b * n) (sym (pow-add 2 k i)) in
    subst (λ n. IsGcd (a * 2 ^ i) n (g * 2 ^ i)) power
    (gcd_scaled a (b * 2 ^ k) g (2 ^ i) (odd_scaled a b g k odd h))

-- two odd numbers with powers of 2: the lesser power is the divisors' part
pub odd_powers : (a b g i j : ℕ) → a % 2 ≡ 1 → b % 2 ≡ 1 → IsGcd a b g →
    IsGcd (a * 2 ^ i) (b * 2 ^ j) (g * 2 ^ min i j)
odd_powers a b g i j a_odd b_odd h = ⊎_elim
    (λ below.
    let least : i ≡ min i j = omega arith in
    let more : j - i + i ≡ j = omega arith in
    subst₂ (λ m n. IsGcd (a * 2 ^ i) (b * 2 ^ m) (g * 2 ^ n)) more least
    (lower_power a b g i (j - i) a_odd h))
    (λ above.
    let least : j ≡ min i j = omega arith in
    let more : i - j + j ≡ i = omega arith in
    IsGcd-swap _ _ _
    (subst₂ (λ m n. IsGcd (b * 2 ^ j) (a * 2 ^ m) (g * 2 ^ n)) more least
    (lower_power b a g j (i - j) b_odd (IsGcd-swap _ _ _ h))))
    (cases_lt i j)

-- ---- the odd part of a number

-- a number of which the k lowest bits are 0 is a multiple of 2 ^ k
low_zeros : (n k : ℕ) → ((i : ℕ) → i < k → bit_at n i ≡ 0) → n / 2 ^ k * 2 ^ k ≡ n
low_zeros n zero zeros = omega arith
low_zeros n (suc k) zeros =
    let q = n / 2 ^ k in
    let before : q * 2 ^ k ≡ n = low_zeros n k (λ i low. zeros i (omega arith)) in
    let even : q % 2 ≡ 0 = zeros k (omega arith) in
    let half : n / 2 ^ suc k ≡ q / 2 = ap (λ m. n / m) (pow-suc 2 k)
    ∙ sym (div-div-eq-div-mul n (2 ^ k) 2) in
    let twice : q / 2 * 2 ≡ q = omega arith in
    ap (λ m. m * 2 ^ suc k) half ∙ ap (λ m. q / 2 * m) (pow-suc 2 k ∙ mul_comm (2 ^ k) 2)
    ∙ sym (mul_assoc (q / 2) 2 (2 ^ k))
    ∙ ap (λ m. m * 2 ^ k) twice ∙ before

-- what is left of a positive number without its trailing zeros is odd, and they are its power of 2
pub odd_part : (n : ℕ) → 0 < n → n < 2 ^ 64 →
    (n / 2 ^ trailing_zeros w64 n % 2 ≡ 1)
    × (n / 2 ^ trailing_zeros w64 n * 2 ^ trailing_zeros w64 n ≡ n)
odd_part n some fits = let h = bit_at-trailing_zeros w64 n some fits in
    (h.1, low_zeros n (trailing_zeros w64 n) h.2)

-- without so many twos, or fewer, it has the rest of its factors
pub twos_part : (n k : ℕ) → 0 < n → n < 2 ^ 64 → k ≤ trailing_zeros w64 n → n / 2 ^ k * 2 ^ k ≡ n
twos_part n k some fits fewer =
    let h = bit_at-trailing_zeros w64 n some fits in
    low_zeros n k (λ i low. h.2 i (omega arith))

-- as many twos taken out as there are, but p at most: all p of them, or what is left is odd
pub twos_left : (n k p : ℕ) → 0 < n → n < 2 ^ 64 → k ≡ min (trailing_zeros w64 n) p →
    (p - k ≡ 0) ⊎ (n / 2 ^ k % 2 ≡ 1)
twos_left n k p some fits is = ⊎_elim
    (λ below.
    let all : trailing_zeros w64 n ≡ k = omega arith in
    inr (subst (λ i. n / 2 ^ i % 2 ≡ 1) all (odd_part n some fits).0))
    (λ above. inl (omega arith))
    (cases_lt (trailing_zeros w64 n) p)

-- ---- the trailing zeros of a difference

under_same : (d e s t : ℕ) → d ≡ e → (d ≡ 0 → s ≡ t) → under d s ≡ under e t
under_same zero e s t same rest = subst (λ n. under 0 s ≡ under n t) same (ap suc (rest refl))
under_same (suc d) e s t same rest = subst (λ n. under (suc d) s ≡ under n t) same refl

-- two numbers that add up to a power of 2 have as many trailing zeros
zeros_of_rest : (k a b : ℕ) → a + b ≡ 2 ^ k → count_trailing_zeros k a ≡ count_trailing_zeros k b
unfolding count_trailing_zeros
zeros_of_rest zero a b sum = refl
zeros_of_rest (suc k) a b sum = under_same (a % 2) (b % 2) _ _ (omega (arith, pow-suc 2 k))
    (λ even. zeros_of_rest k (a / 2) (b / 2) (omega (arith, pow-suc 2 k)))

-- so have a difference that wraps and its absolute value
pub zeros_of_difference : (a b : ℕ) → a < 2 ^ 64 → b < 2 ^ 64 →
    trailing_zeros w64 ((b + (2 ^ 64 - a)) % 2 ^ 64) ≡ trailing_zeros w64 (abs_diff a b)
zeros_of_difference a b a_fits b_fits = ⊎_elim
    (λ below. let same : (b + (2 ^ 64 - a)) % 2 ^ 64 ≡ abs_diff a b = omega arith in
    ap (trailing_zeros w64) same)
    (λ above. ⊎_elim
    (λ less. zeros_of_rest 64 ((b + (2 ^ 64 - a)) % 2 ^ 64) (abs_diff a b) (omega arith))
    (λ equal. let same : (b + (2 ^ 64 - a)) % 2 ^ 64 ≡ abs_diff a b = omega arith in
    ap (trailing_zeros w64) same)
    (cases_lt b a))
    (cases_lt a b)

-- ---- differences

-- the lesser of two numbers and their difference have the divisors of the two
from_difference : (a b g : ℕ) → IsGcd (min a b) (abs_diff a b) g → IsGcd a b g
from_difference a b g h = ⊎_elim
    (λ below.
    let lesser : min a b ≡ a = omega arith in
    let difference : abs_diff a b ≡ b - a = omega arith in
    IsGcd-swap _ _ _ (IsGcd-from_sub b a g (omega arith)
    (IsGcd-swap _ _ _ (subst₂ (λ m n. IsGcd m n g) lesser difference h))))
    (λ above.
    let lesser : min a b ≡ b = omega arith in
    let difference : abs_diff a b ≡ a - b = omega arith in
    IsGcd-from_sub a b g above (IsGcd-swap _ _ _ (subst₂ (λ m n. IsGcd m n g) lesser difference h)))
    (cases_lt a b)

-- two odd numbers: the odd part of their difference, and the lesser of them, have their divisors
pub from_odd_difference : (a b g : ℕ) → a % 2 ≡ 1 → b % 2 ≡ 1 → 0 < abs_diff a b →
    abs_diff a b < 2 ^ 64 →
    IsGcd (abs_diff a b / 2 ^ trailing_zeros w64 (abs_diff a b)) (min a b) g → IsGcd a b g
from_odd_difference a b g a_odd b_odd some fits h =
    let zeros = trailing_zeros w64 (abs_diff a b) in
    let odd : min a b % 2 ≡ 1 =
    ⊎_elim (λ below. omega (arith, a_odd)) (λ above. omega (arith, b_odd)) (cases_lt a b) in
    from_difference a b g
    (subst (λ n. IsGcd (min a b) n g) (odd_part (abs_diff a b) some fits).1
    (odd_scaled (min a b) (abs_diff a b / 2 ^ zeros) g zeros odd (IsGcd-swap _ _ _ h)))

-- the greater and the lesser of two numbers have the divisors of the two
pub from_sorted : (a b m n g : ℕ) → m ≡ max a b → n ≡ min a b → IsGcd m n g → IsGcd a b g
from_sorted a b m n g greatest least h = ⊎_elim
    (λ below.
    let m_is : m ≡ b = omega arith in
    let n_is : n ≡ a = omega arith in
    IsGcd-swap _ _ _ (subst₂ (λ p q. IsGcd p q g) m_is n_is h))
    (λ above.
    let m_is : m ≡ a = omega arith in
    let n_is : n ≡ b = omega arith in
    subst₂ (λ p q. IsGcd p q g) m_is n_is h)
    (cases_lt a b)
