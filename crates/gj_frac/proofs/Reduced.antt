-- What dividing both parts of a fraction by their greatest common divisor gives.
use Rattle.std.proofs.Common.{◌≡◌, ◌≢◌, ℕ, ◌<◌, ◌≤◌, ◌^◌, ℤ, pos, negsuc, ◌+ℤ◌, ◌-ℤ◌, ◌*ℤ◌, neg_ℤ, zero, suc, ◌<ℤ◌, unsigned_abs, int_div, int_rem, sym, ◌∙◌, ap, subst, subst₂, refl, arith, to_z, of_z}
use Rattle.std.specs.Int.{IsGcd, ◌∣◌}
use Rattle.gj_frac.specs.declared.Frac.{Frac}
use Rattle.gj_frac.specs.Fraction.{IsRatio}
use Rattle.gj_frac.specs.Lowest.{IsLowest}
use Rattle.std.proofs.lemmas.Int.{quot-rem, unsigned_abs-mul, fits_signed_from_abs, to_z-of_z, ints}
use Rattle.std.proofs.lemmas.Nat.{mul-le}
use Rattle.std.proofs.lemmas.Nat.Gcd.{mod-eq-zero_of_dvd, le_of_dvd}
use Rattle.std.proofs.Math.Nat.{eq-zero_of_zero-dvd}
use mir.Syntax.{w128}
use Rattle.gj_lemmas.proofs.Integers.{mul_assoc_z, mul_comm_z, positive_some_z, abs_positive_z}
use Rattle.gj_lemmas.proofs.Divisors.{gcd_quotients}

-- the rest of a division by a divisor is 0
rest_of_divisor : (n d : ℤ) → unsigned_abs d ∣ unsigned_abs n → int_rem n d ≡ pos 0
rest_of_divisor (pos n) d h = ap pos (mod-eq-zero_of_dvd _ h)
rest_of_divisor (negsuc n) d h = ap (λ k. neg_ℤ (pos k)) (mod-eq-zero_of_dvd _ h)

-- a whole number is its quotient by a divisor, times the divisor
pub quotient_of_divisor : (n d : ℤ) → unsigned_abs d ∣ unsigned_abs n → int_div n d *ℤ d ≡ n
quotient_of_divisor n d h =
    let exact : int_rem n d ≡ pos 0 = rest_of_divisor n d h in
    let parts : int_div n d *ℤ d +ℤ int_rem n d ≡ n = quot-rem n d in
    let parts' : int_div n d *ℤ d +ℤ pos 0 ≡ n =
    subst (λ (r : ℤ). int_div n d *ℤ d +ℤ r ≡ n) exact parts in
    omega (arith, ints)

-- the quotients of two whole numbers by their greatest common divisor have only 1 in common
pub coprime_signed_quotients : (a b g p q : ℤ) →
    IsGcd (unsigned_abs a) (unsigned_abs b) (unsigned_abs g) →
    0 < unsigned_abs g → p *ℤ g ≡ a → q *ℤ g ≡ b → IsGcd (unsigned_abs p) (unsigned_abs q) 1
coprime_signed_quotients a b g p q h some p_is q_is =
    let first = sym (ap unsigned_abs p_is) ∙ unsigned_abs-mul p g in
    let second = sym (ap unsigned_abs q_is) ∙ unsigned_abs-mul q g in
    gcd_quotients (unsigned_abs p) (unsigned_abs q) (unsigned_abs g)
    (subst₂ (λ m n. IsGcd m n (unsigned_abs g)) first second h) some

-- a quotient fits if the number does
pub quotient_fits : (q d n : ℤ) → pos 0 <ℤ d → q *ℤ d ≡ n → unsigned_abs n < 2 ^ 127 →
    unsigned_abs q < 2 ^ 127
quotient_fits q d n some e h =
    let sizes = sym (unsigned_abs-mul q d) ∙ ap unsigned_abs e in
    let below = mul-le (unsigned_abs q) 1 (unsigned_abs q) (unsigned_abs d) (omega arith)
    (abs_positive_z d some) in
    omega (arith, sizes, below, h)

-- a divisor of a number that is not 0 is at most that number, and is not 0
pub divisor_of_positive : (g n : ℕ) → n ≢ 0 → g ∣ n → (0 < g) × (g ≤ n)
divisor_of_positive g n h k =
    let below : g ≤ n = le_of_dvd (omega arith) k in
    let above : g ≢ 0 = λ e. h (eq-zero_of_zero-dvd (subst (λ (d : ℕ). d ∣ n) e k)) in
    (omega arith, below)

-- two equal fractions stay equal if both parts of one are multiplied
pub same_from_multiples : (n d p q g num den : ℤ) → p *ℤ g ≡ num → q *ℤ g ≡ den → n *ℤ q ≡ p *ℤ d →
    n *ℤ den ≡ num *ℤ d
same_from_multiples n d p q g num den e f h =
    subst (λ (z : ℤ). n *ℤ z ≡ num *ℤ d) f
    (sym (mul_assoc_z n q g) ∙ ap (λ z. z *ℤ g) h ∙ mul_assoc_z p d g
    ∙ ap (λ z. p *ℤ z) (mul_comm_z d g) ∙ sym (mul_assoc_z p g d) ∙ ap (λ z. z *ℤ d) e)

-- the same greatest common divisor, of numbers that are equal
pub gcd_along : (a b g m n k : ℕ) → m ≡ a → n ≡ b → k ≡ g → IsGcd m n k → IsGcd a b g
gcd_along a b g m n k e f h d =
    subst (λ (x : ℕ). IsGcd x b g) e
    (subst (λ (y : ℕ). IsGcd m y g) f (subst (λ (z : ℕ). IsGcd m n z) h d))

-- turning the sign of a whole number keeps its absolute value
pub unsigned_abs-negated : (n : ℤ) → unsigned_abs (pos 0 -ℤ n) ≡ unsigned_abs n
unsigned_abs-negated (pos zero) = refl
unsigned_abs-negated (pos (suc n)) =
    let turned : pos 0 -ℤ pos (suc n) ≡ negsuc n = omega (arith, ints) in ap unsigned_abs turned
unsigned_abs-negated (negsuc n) = omega arith

-- with both signs turned the parts of a fraction in lowest terms stay so, if the denominator was
-- negative
pub lowest_negated : (num den : ℤ) → pos 0 <ℤ (pos 0 -ℤ den) → unsigned_abs num < 2 ^ 127 →
    unsigned_abs den < 2 ^ 127 →
    IsGcd (unsigned_abs num) (unsigned_abs den) 1 → IsLowest (pos 0 -ℤ num) (pos 0 -ℤ den)
lowest_negated num den h f g d =
    let num' = unsigned_abs-negated num in
    let den' = unsigned_abs-negated den in
    record {
      positive = h;
      num_fits = rw num' f;
      den_fits = rw den' g;
      coprime = gcd_along _ _ _ _ _ _ (sym num') (sym den') refl d;
    }

-- a part of a fraction is read as it is
pub read_part : (z : ℤ) → unsigned_abs z < 2 ^ 127 → to_z w128 (of_z w128 z) ≡ z
read_part z h = to_z-of_z w128 z (fits_signed_from_abs w128 z h)

-- so a denominator is read as a number that is not 0
pub read_some : (x : Frac) → unsigned_abs (to_z w128 (of_z w128 x.den)) ≢ 0
read_some x =
    subst (λ (n : ℤ). unsigned_abs n ≢ 0) (sym (read_part x.den x.lowest.den_fits))
    (positive_some_z x.den x.lowest.positive)

-- so is a ratio of parts
pub num_over_den : (x y z : Frac) →
    IsRatio z (to_z w128 (of_z w128 x.num)) (to_z w128 (of_z w128 y.den)) →
    IsRatio z x.num y.den
num_over_den x y z = subst₂ (IsRatio z) (read_part x.num x.lowest.num_fits)
    (read_part y.den y.lowest.den_fits)

pub num_over_num : (x y z : Frac) →
    IsRatio z (to_z w128 (of_z w128 x.num)) (to_z w128 (of_z w128 y.num)) →
    IsRatio z x.num y.num
num_over_num x y z = subst₂ (IsRatio z) (read_part x.num x.lowest.num_fits)
    (read_part y.num y.lowest.num_fits)

pub den_over_den : (x y z : Frac) →
    IsRatio z (to_z w128 (of_z w128 x.den)) (to_z w128 (of_z w128 y.den)) →
    IsRatio z x.den y.den
den_over_den x y z = subst₂ (IsRatio z) (read_part x.den x.lowest.den_fits)
    (read_part y.den y.lowest.den_fits)
