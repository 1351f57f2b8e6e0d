-- Quotients and rests of natural numbers.
use Rattle.std.proofs.Common.{◌≡◌, ℕ, zero, suc, ◌+◌, ◌-◌, ◌*◌, ◌/◌, ◌%◌, ◌<◌, ◌≤◌, sym, ap, ◌∙◌, arith}
use Rattle.std.proofs.Math.Nat.{div-add-mod', mod-lt, add-mul-mod_self_right}
use lib.Arith.{mod-mul}
use Rattle.std.proofs.lemmas.Nat.{div-mul-add, mod-mul-add}

-- ---- equal rests

-- two numbers that differ by multiples of q have one rest
pub same_remainder : (a b x y q : ℕ) → a + x * q ≡ b + y * q → a % q ≡ b % q
same_remainder a b x y q e =
    sym (add-mul-mod_self_right a x q) ∙ ap (λ n. n % q) e ∙ add-mul-mod_self_right b y q

-- two numbers that have one rest differ by multiples of q
pub from_same_remainder : (a b q : ℕ) → a % q ≡ b % q → a + b / q * q ≡ b + a / q * q
from_same_remainder a b q e =
    let first = div-add-mod' a q in
    let second = div-add-mod' b q in
    omega arith

-- ---- functions with a period

-- a function with the period q has it any number of times
pub periods : {A : Type 0} (p : ℕ → A) (q : ℕ) → ((i : ℕ) → p (i + q) ≡ p i) → (i k : ℕ) →
    p (i + k * q) ≡ p i
periods p q step i zero = ap p (omega arith)
periods p q step i (suc k) =
    let is : i + suc k * q ≡ i + k * q + q = omega arith in
    ap p is ∙ step (i + k * q) ∙ periods p q step i k

-- it has one value at numbers with one rest
pub same_at_remainder : {A : Type 0} (p : ℕ → A) (q : ℕ) → ((i : ℕ) → p (i + q) ≡ p i) →
    (a b : ℕ) → a % q ≡ b % q → p a ≡ p b
same_at_remainder p q step a b e =
    sym (periods p q step a (b / q)) ∙ ap p (from_same_remainder a b q e)
    ∙ periods p q step b (a / q)

-- ---- places: a m + r with r below m

-- the quotient and the rest of a place
pub parts_of_place : (i a m r : ℕ) → i ≡ a * m + r → r < m → (i / m ≡ a) × (i % m ≡ r)
parts_of_place i a m r e small =
    (ap (λ n. n / m) e ∙ div-mul-add a m r small, ap (λ n. n % m) e ∙ mod-mul-add a m r small)

-- the sum of two places whose rests stay below m together
pub place_sum_low : (i j m : ℕ) → i % m + j % m < m →
    ((i + j) / m ≡ i / m + j / m) × ((i + j) % m ≡ i % m + j % m)
place_sum_low i j m low =
    let first = div-add-mod' i m in
    let second = div-add-mod' j m in
    parts_of_place (i + j) (i / m + j / m) m (i % m + j % m) (omega arith) low

-- the sum of two places whose rests reach m together
pub place_sum_high : (i j m : ℕ) → 0 < m → m ≤ i % m + j % m →
    ((i + j) / m ≡ i / m + j / m + 1) × ((i + j) % m + m ≡ i % m + j % m)
place_sum_high i j m some high =
    let first = div-add-mod' i m in
    let second = div-add-mod' j m in
    let i_small = mod-lt i some in
    let j_small = mod-lt j some in
    let r = i % m + j % m - m in
    let is : i + j ≡ (i / m + j / m + 1) * m + r = omega arith in
    let parts = parts_of_place (i + j) (i / m + j / m + 1) m r is (omega arith) in
    (parts.0, let rest = parts.1 in omega arith)

-- the next number, with a rest of one more
pub next_place_low : (i m : ℕ) → i % m + 1 < m → ((i + 1) / m ≡ i / m) × ((i + 1) % m ≡ i % m + 1)
next_place_low i m low =
    let split = div-add-mod' i m in
    parts_of_place (i + 1) (i / m) m (i % m + 1) (omega arith) low

-- the next number, at the next multiple of m
pub next_place_high : (i m : ℕ) → i % m + 1 ≡ m → ((i + 1) / m ≡ i / m + 1) × ((i + 1) % m ≡ 0)
next_place_high i m high =
    let split = div-add-mod' i m in
    parts_of_place (i + 1) (i / m + 1) m 0 (omega arith) (omega arith)

-- ---- two divisors

-- the quotient and the rest by m of a rest by q m
pub parts_of_remainder : (i q m : ℕ) → 0 < q → 0 < m →
    (i % (q * m) / m ≡ i / m % q) × (i % (q * m) % m ≡ i % m)
parts_of_remainder i q m q_some m_some =
    parts_of_place (i % (q * m)) (i / m % q) m (i % m) (mod-mul i q_some m_some) (mod-lt i m_some)
