-- Two fractions over their common denominator, and what adding their numerators there gives.
use Rattle.std.proofs.Common.{◌≡◌, ◌≢◌, ℕ, ◌*◌, ◌/◌, ℤ, pos, ◌+ℤ◌, ◌-ℤ◌, ◌*ℤ◌, ◌<ℤ◌, unsigned_abs, sym, ap, ◌∙◌, arith, to_z, of_z, FitsSigned}
use Rattle.std.proofs.Math.Nat.{mul-div_cancel, zero-mul}
use Rattle.std.proofs.lemmas.Int.{ints, unsigned_abs-mul, to_z-of_z}
use Rattle.std.proofs.lemmas.Nat.Gcd.{same_from_IsGcd}
use Rattle.std.specs.Int.{IsGcd}
use Rattle.gj_frac.specs.declared.Frac.{Frac}
use Rattle.gj_frac.specs.Fraction.{IsRatio}
use Rattle.gj_frac.specs.Fits.{IsDenominatorGcd, scaled_numerator, common_denominator}
use Rattle.gj_lemmas.proofs.Integers.{mul_assoc_z, mul_lt_cancel_right_z, mul_some_z, abs_positive_z, positive_some_z, pos_abs_z}
use Rattle.gj_lemmas.proofs.Divisors.{quotient_times, crossed_quotients}
use Rattle.gj_frac.proofs.Reduced.{read_part}
use mir.Syntax.{w128}
use Rattle.gj_lemmas.proofs.Ratios.{ratio_along, ratio_sum, ratio_difference}

-- ---- the common denominator

-- a factor of a number that is not 0 is not 0
pub factor_some : (p d n : ℤ) → p *ℤ d ≡ n → unsigned_abs n ≢ 0 → unsigned_abs p ≢ 0
factor_some p d n e some h =
    some (sym (ap unsigned_abs e) ∙ unsigned_abs-mul p d ∙ ap (λ m. m * unsigned_abs d) h
    ∙ zero-mul (unsigned_abs d))

-- the quotient of a positive number by a positive divisor
pub quotient_is : (n d q : ℤ) → pos 0 <ℤ n → pos 0 <ℤ d → q *ℤ d ≡ n →
    q ≡ pos (unsigned_abs n / unsigned_abs d)
quotient_is n d q some d_some e =
    let sizes : unsigned_abs q * unsigned_abs d ≡ unsigned_abs n = sym (unsigned_abs-mul q d)
    ∙ ap unsigned_abs e in
    let size : unsigned_abs n / unsigned_abs d ≡ unsigned_abs q =
    ap (λ m. m / unsigned_abs d) (sym sizes)
    ∙ mul-div_cancel (unsigned_abs q) (abs_positive_z d d_some) in
    let above : pos 0 <ℤ q = mul_lt_cancel_right_z (pos 0) q d d_some (omega (arith, ints)) in
    sym (pos_abs_z q (omega (arith, ints))) ∙ ap pos (sym size)

-- the same by any name of the greatest common divisor
pub quotient_by_gcd : (n d e q : ℤ) (g : ℕ) → pos 0 <ℤ n → pos 0 <ℤ d → q *ℤ d ≡ n →
    IsGcd (unsigned_abs n) (unsigned_abs e) (unsigned_abs d) →
    IsGcd (unsigned_abs n) (unsigned_abs e) g →
    q ≡ pos (unsigned_abs n / g)
quotient_by_gcd n d e q g some d_some is h k =
    quotient_is n d q some d_some is
    ∙ ap (λ (m : ℕ). pos (unsigned_abs n / m)) (same_from_IsGcd _ _ _ _ h k)

-- the quotients of the denominators of x and y as the code reads them
pub first_quotient : (x y : Frac) (r : ℤ) → FitsSigned w128 r →
    ((g : ℕ) → IsGcd (unsigned_abs (to_z w128 (of_z w128 x.den)))
    (unsigned_abs (to_z w128 (of_z w128 y.den))) g →
    r ≡ pos (unsigned_abs (to_z w128 (of_z w128 x.den)) / g)) →
    (g : ℕ) → IsDenominatorGcd x y g → to_z w128 (of_z w128 r) ≡ pos (unsigned_abs x.den / g)
first_quotient x y r fits is =
    let first = read_part x.den x.lowest.den_fits in
    let second = read_part y.den y.lowest.den_fits in
    λ g h. to_z-of_z w128 r fits ∙ (simp (first, second) at is) g h

pub second_quotient : (x y : Frac) (r : ℤ) → FitsSigned w128 r →
    ((g : ℕ) → IsGcd (unsigned_abs (to_z w128 (of_z w128 x.den)))
    (unsigned_abs (to_z w128 (of_z w128 y.den))) g →
    r ≡ pos (unsigned_abs (to_z w128 (of_z w128 y.den)) / g)) →
    (g : ℕ) → IsDenominatorGcd x y g → to_z w128 (of_z w128 r) ≡ pos (unsigned_abs y.den / g)
second_quotient x y r fits is =
    let first = read_part x.den x.lowest.den_fits in
    let second = read_part y.den y.lowest.den_fits in
    λ g h. to_z-of_z w128 r fits ∙ (simp (first, second) at is) g h

-- x over the common denominator of x and y
pub first_is : (x y : Frac) (g : ℕ) → IsDenominatorGcd x y g →
    IsRatio x (scaled_numerator x y g) (common_denominator x y g)
first_is x y g h =
    ap (λ w. x.num *ℤ w) (crossed_quotients x.den y.den g x.lowest.positive y.lowest.positive h)
    ∙ sym (mul_assoc_z x.num (pos (unsigned_abs y.den / g)) x.den)

-- y over the common denominator of x and y
pub second_is : (x y : Frac) (g : ℕ) → IsRatio y (scaled_numerator y x g) (common_denominator x y g)
second_is x y g = sym (mul_assoc_z y.num (pos (unsigned_abs x.den / g)) y.den)

-- the common denominator is not 0
pub common_some : (x y : Frac) (g : ℕ) → IsDenominatorGcd x y g →
    unsigned_abs (common_denominator x y g) ≢ 0
common_some x y g h =
    let p = pos (unsigned_abs x.den / g) in
    let p_some = factor_some p (pos g) x.den (quotient_times x.den g x.lowest.positive h.0)
    (positive_some_z x.den x.lowest.positive) in
    mul_some_z p y.den p_some (positive_some_z y.den y.lowest.positive)

-- ---- sums over the common denominator

-- what has the value of the scaled numerators' sum over the common denominator is x + y
pub sum_is : (x y : Frac) (g : ℕ) (n d : ℤ) → IsDenominatorGcd x y g →
    n *ℤ common_denominator x y g ≡ (scaled_numerator x y g +ℤ scaled_numerator y x g) *ℤ d →
    n *ℤ (x.den *ℤ y.den) ≡ (x.num *ℤ y.den +ℤ y.num *ℤ x.den) *ℤ d
sum_is x y g n d h same =
    ratio_along n d _ _ _ _ (common_some x y g h) same
    (sym (ratio_sum x.num x.den y.num y.den _ _ _ (first_is x y g h) (second_is x y g)))

-- what has the value of their difference over it is x - y
pub difference_is : (x y : Frac) (g : ℕ) (n d : ℤ) → IsDenominatorGcd x y g →
    n *ℤ common_denominator x y g ≡ (scaled_numerator x y g -ℤ scaled_numerator y x g) *ℤ d →
    n *ℤ (x.den *ℤ y.den) ≡ (x.num *ℤ y.den -ℤ y.num *ℤ x.den) *ℤ d
difference_is x y g n d h same =
    ratio_along n d _ _ _ _ (common_some x y g h) same
    (sym (ratio_difference x.num x.den y.num y.den _ _ _ (first_is x y g h) (second_is x y g)))
