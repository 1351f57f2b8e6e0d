-- What fractions over one denominator say of their numerators.
use Rattle.std.proofs.Common.{◌≡◌, ℕ, ◌*◌, ◌<◌, ◌≤◌, ◌^◌, ◌↔◌, ℤ, pos, ◌+ℤ◌, ◌-ℤ◌, to_z, of_z, ◌*ℤ◌, ◌<ℤ◌, ◌≤ℤ◌, unsigned_abs, sym, ap, subst, subst₂, ◌∙◌, arith}
use Rattle.std.proofs.Math.Nat.{mul-pos, mul_comm, dvd-mul_left}
use Rattle.std.proofs.lemmas.Nat.Gcd.{le_of_dvd}
use Rattle.std.specs.Int.{◌∣◌}
use Rattle.std.proofs.lemmas.Int.{ints, unsigned_abs-mul, to_z-of_z}
use mir.Syntax.{w128}
use Rattle.gj_frac.specs.declared.Frac.{Frac}
use Rattle.gj_frac.specs.Fraction.{IsRatio, SameValue, LessValue, fraction_of, sum_of, numerator, denominator}
use Rattle.gj_lemmas.proofs.Integers.{mul_assoc_z, mul_comm_z, swap_last_z, mul_cancel_right_z, mul_lt_mul_right_z, mul_lt_cancel_right_z, mul_le_mul_left_z, mul_le_cancel_right_z, mul_positive_z, mul_nonnegative_z}
use Rattle.gj_lemmas.proofs.Divisors.{denominator_divides}
use Rattle.gj_lemmas.proofs.Ratios.{ratio_sum}
use Rattle.gj_frac.proofs.SameValues.{is_along}
use Rattle.gj_shape.proofs.LeastDenominator.{denominator_some}

-- a denominator is a natural number
pub denominator_is : (x : Frac) → denominator x ≡ pos (unsigned_abs (denominator x))
denominator_is x = let positive = x.lowest.positive in omega (arith, ints)

-- in lowest terms no part of n/d is greater
pub least_parts : (x : Frac) (n d : ℕ) → 0 < d → IsRatio x (pos n) (pos d) →
    (pos 0 ≤ℤ numerator x) × (numerator x ≤ℤ pos n) × (denominator x ≤ℤ pos d)
least_parts x n d some is =
    let positive : pos 0 <ℤ pos d = omega (arith, ints) in
    let sizes : unsigned_abs x.num * d ≡ n * unsigned_abs x.den =
    sym (unsigned_abs-mul x.num (pos d)) ∙ ap unsigned_abs is ∙ unsigned_abs-mul (pos n) x.den in
    let divides : unsigned_abs x.den ∣ d =
    denominator_divides x.num (unsigned_abs x.den) d x.lowest.coprime
    (subst (λ m. unsigned_abs x.den ∣ m) (sym sizes ∙ mul_comm (unsigned_abs x.num) d)
    (dvd-mul_left (unsigned_abs x.den) n)) in
    let fine = le_of_dvd some divides in
    let den_some = x.lowest.positive in
    let den_high : x.den ≤ℤ pos d = omega (arith, ints) in
    let top_low : pos 0 ≤ℤ (pos n *ℤ x.den) = mul_nonnegative_z (pos n) x.den (omega (arith, ints))
    (omega (arith, ints)) in
    let top_high : (pos n *ℤ x.den) ≤ℤ (pos n *ℤ pos d) =
    mul_le_mul_left_z x.den (pos d) (pos n) (omega (arith, ints)) den_high in
    let is_z : x.num *ℤ pos d ≡ pos n *ℤ x.den = is in (
      mul_le_cancel_right_z (pos 0) x.num (pos d) positive (omega (arith, ints)),
      mul_le_cancel_right_z x.num (pos n) (pos d) positive (omega (arith, ints)),
      den_high,
    )

-- the sum of n/w and m/w
pub sum_over : (x y s : Frac) (n m w : ℤ) → IsRatio x n w → IsRatio y m w →
    SameValue (fraction_of s) (sum_of (fraction_of x) (fraction_of y)) → IsRatio s (n +ℤ m) w
sum_over x y s n m w x_is y_is h =
    let size = unsigned_abs-mul x.den y.den in
    let some = mul-pos (denominator_some x) (denominator_some y) in
    is_along s (x.num *ℤ y.den +ℤ y.num *ℤ x.den) (x.den *ℤ y.den) (n +ℤ m) w (omega arith) h
    (ratio_sum x.num x.den y.num y.den n m w x_is y_is)

-- n/w is less than m/w exactly if n is less than m
pub less_over : (x y : Frac) (n m : ℤ) (w : ℕ) → 0 < w → IsRatio x n (pos w) → IsRatio y m (pos w) →
    LessValue (fraction_of x) (fraction_of y) ↔ (n <ℤ m)
less_over x y n m w some x_is y_is =
    let positive : pos 0 <ℤ pos w = omega (arith, ints) in
    let both = mul_positive_z x.den y.den x.lowest.positive y.lowest.positive in
    let left : (x.num *ℤ y.den) *ℤ pos w ≡ n *ℤ (x.den *ℤ y.den) =
    swap_last_z x.num y.den (pos w) ∙ ap (λ z. z *ℤ y.den) x_is ∙ mul_assoc_z n x.den y.den in
    let right : (y.num *ℤ x.den) *ℤ pos w ≡ m *ℤ (x.den *ℤ y.den) =
    swap_last_z y.num x.den (pos w) ∙ ap (λ z. z *ℤ x.den) y_is ∙ swap_last_z m y.den x.den
    ∙ mul_assoc_z m x.den y.den in (
      λ h. mul_lt_cancel_right_z n m (x.den *ℤ y.den) both
          (subst₂ (λ a b. a <ℤ b) left right
          (mul_lt_mul_right_z (x.num *ℤ y.den) (y.num *ℤ x.den) (pos w) positive h)),
      λ h. mul_lt_cancel_right_z (x.num *ℤ y.den) (y.num *ℤ x.den) (pos w) positive
          (subst₂ (λ a b. a <ℤ b) (sym left) (sym right)
          (mul_lt_mul_right_z n m (x.den *ℤ y.den) both h)),
    )

-- n/w is negative exactly if n is
pub negative_over : (x : Frac) (n : ℤ) (w : ℕ) → 0 < w → IsRatio x n (pos w) →
    (numerator x <ℤ pos 0) ↔ (n <ℤ pos 0)
negative_over x n w some x_is =
    let positive : pos 0 <ℤ pos w = omega (arith, ints) in
    let is : x.num *ℤ pos w ≡ n *ℤ x.den = x_is in (
      λ h. let k = mul_lt_mul_right_z x.num (pos 0) (pos w) positive h in
          mul_lt_cancel_right_z n (pos 0) x.den x.lowest.positive (omega (arith, ints)),
      λ h. let k = mul_lt_mul_right_z n (pos 0) x.den x.lowest.positive h in
          mul_lt_cancel_right_z x.num (pos 0) (pos w) positive (omega (arith, ints)),
    )

-- n/w is 1 exactly if n is w
pub one_over : (x : Frac) (n : ℤ) (w : ℕ) → 0 < w → IsRatio x n (pos w) →
    (numerator x ≡ denominator x) ↔ (n ≡ pos w)
one_over x n w some x_is =
    let den = denominator_some x in (
      λ h. mul_cancel_right_z n (pos w) x.den (sym x_is ∙ ap (λ z. z *ℤ pos w) h
          ∙ mul_comm_z x.den (pos w))
          (omega arith),
      λ h. mul_cancel_right_z x.num x.den (pos w) (x_is ∙ ap (λ z. z *ℤ x.den) h
          ∙ sym (mul_comm_z x.den (pos w)))
          (omega (arith, ints)),
    )

-- a difference of two whole numbers of 94 bits, as the code has it
pub difference_read : (x y : ℤ) → unsigned_abs x ≤ 2 ^ 94 → unsigned_abs y ≤ 2 ^ 94 →
    to_z w128 (of_z w128 (to_z w128 (of_z w128 x) -ℤ to_z w128 (of_z w128 y))) ≡ x -ℤ y
difference_read x y x_small y_small =
    let first = to_z-of_z w128 x (omega (arith, ints)) in
    let second = to_z-of_z w128 y (omega (arith, ints)) in
    rw (first, second) (to_z-of_z w128 (x -ℤ y) (omega (arith, ints)))
