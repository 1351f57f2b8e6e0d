-- The coefficients of cuts are from 0 to 1 and have small parts.
use Rattle.std.proofs.Common.{◌≡◌, ℕ, ◌*◌, ◌<◌, ◌≤◌, ◌^◌, ◌⊎◌, inl, inr, ⊎_elim, [], ◌∷◌, ℤ, pos, ◌+ℤ◌, ◌-ℤ◌, ◌*ℤ◌, ◌<ℤ◌, ◌≤ℤ◌, unsigned_abs, refl, sym, ap, subst, subst₂, ◌∙◌, arith}
use Rattle.std.specs.Int.{int_div_euclid}
use Rattle.std.proofs.Math.Nat.{mul-pos}
use Rattle.std.proofs.lemmas.Bool.{cases_lt}
use Rattle.std.proofs.lemmas.Int.{ints}
use Rattle.std.proofs.lemmas.Nat.Gcd.{le_of_dvd}
use Rattle.gj_lemmas.proofs.Divisors.{whole_multiple}
use Rattle.gj_lemmas.proofs.Integers.{mul_comm_z, add_mul_z, sub_mul_z, mul_sub_z, mul_nonnegative_z, mul_positive_z, mul_le_mul_right_z, mul_le_cancel_right_z, pos_abs_z, unsigned_abs-mul}
use Rattle.gj_lemmas.proofs.Ring.{by_ring, ring}
use Rattle.gj_frac.specs.declared.Frac.{Frac}
use Rattle.gj_frac.specs.Floor.{IsFloor}
use Rattle.gj_frac.specs.Fraction.{IsRatio, IsInside, numerator, denominator}
use Rattle.gj_frac.proofs.Floors.{quotient_is_floor}
use Rattle.gj_shape.specs.FunctionData.{FunctionData, IsWithinBounds}
use Rattle.gj_shape.specs.Table.{table, IsMinimal}
use Rattle.gj_shape.proofs.Averages.{scales_below}
use Rattle.gj_shape.proofs.LeastDenominator.{denominator_some}
use Rattle.gj_shape.proofs.ValueLemmas.{natural_index}
use Rattle.gj_theory.specs.Cuts.{IsValueOf, IsGmicValue}
use Rattle.gj_theory.proofs.SlacksAndSizes.{at_most_scale}
use Rattle.gj_valid.specs.Coefficients.{IsSmallCoefficient}

-- ---- fractions over a small bottom

-- in lowest terms a denominator is at most the bottom of each fraction of the same value
denominator_at_most : (x : Frac) (a b : ℤ) → pos 0 <ℤ b → IsRatio x a b →
    unsigned_abs (denominator x) ≤ unsigned_abs b
denominator_at_most x a b some is =
    let bottom : pos (unsigned_abs b) ≡ b = pos_abs_z b (omega (arith, ints)) in
    let positive = x.lowest.positive in
    let den : pos (unsigned_abs x.den) ≡ x.den = pos_abs_z x.den (omega (arith, ints)) in
    le_of_dvd (omega (arith, ints))
    (whole_multiple x.num a (unsigned_abs x.den) (unsigned_abs b) x.lowest.coprime
    (ap (λ z. z *ℤ x.num) bottom ∙ mul_comm_z b x.num ∙ is ∙ ap (λ z. a *ℤ z) (sym den)))

-- a fraction a/b that is from 0 to 1
small_over : (x : Frac) (a b : ℤ) → pos 0 ≤ℤ a → a ≤ℤ b → pos 0 <ℤ b → unsigned_abs b ≤ 2 ^ 62 →
    IsRatio x a b → IsSmallCoefficient x
small_over x a b low high some small is =
    let positive = x.lowest.positive in
    let den : pos 0 ≤ℤ x.den = omega (arith, ints) in
    let product = mul_nonnegative_z a x.den low den in
    let scaled = mul_le_mul_right_z a b x.den den high in
    let swapped = mul_comm_z b x.den in
    let nonnegative = mul_le_cancel_right_z (pos 0) x.num b some (omega (arith, ints)) in
    let at_most_one = mul_le_cancel_right_z x.num x.den b some (omega (arith, ints)) in
    let bottom = denominator_at_most x a b some is in
    record {
      nonnegative = nonnegative;
      at_most_one = at_most_one;
      numerator_small = omega (arith, ints);
      denominator_small = omega (arith, ints);
    }

-- ---- values of minimal functions

pub value_small : (f : FunctionData) (x y : Frac) → IsWithinBounds f → IsMinimal f →
    unsigned_abs (denominator x) < 2 ^ 31 →
    IsValueOf f x y → IsSmallCoefficient y
value_small f x y l h fine value =
    let d = unsigned_abs (denominator x) in
    let some : 0 < d = denominator_some x in
    let order : 0 < f.order = let low = l.order_low in omega arith in
    let scale : 0 < f.scale = let low = l.scale_low in omega arith in
    let grid : 0 < f.order * d = mul-pos order some in
    let bottom : 0 < f.scale * d = mul-pos scale some in
    let (i, place) = natural_index (numerator x *ℤ pos f.order) (f.order * d) grid in
    let minimal = h d some in
    small_over y (table f d i) (pos (f.scale * d)) (minimal.nonnegative i)
    (at_most_scale (table f d) (f.order * d) (f.place * d) (f.scale * d) i grid minimal)
    (omega (arith, ints))
    (scales_below f.scale d l.scale_high fine) (value i place)

-- ---- values of mixed-integer cuts

-- what a floor leaves is from 0 to below the denominator
rest_bounds : (n d w : ℤ) → (w *ℤ d) ≤ℤ n → n <ℤ ((w +ℤ pos 1) *ℤ d) →
    (pos 0 ≤ℤ (n -ℤ w *ℤ d)) × ((n -ℤ w *ℤ d) <ℤ d)
rest_bounds n d w low high = let split = add_mul_z w (pos 1) d in
    (omega (arith, ints), omega (arith, ints))

product_small : (x y : ℤ) → unsigned_abs x < 2 ^ 31 → unsigned_abs y < 2 ^ 31 →
    unsigned_abs (x *ℤ y) ≤ 2 ^ 62
product_small x y h k = subst (λ (n : ℕ). n ≤ 2 ^ 62) (sym (unsigned_abs-mul x y))
    (scales_below (unsigned_abs x) (unsigned_abs y) h k)

falling_top : (p d q : ℤ) → (pos 1 *ℤ d -ℤ p *ℤ pos 1) *ℤ (pos 1 *ℤ q) ≡ (d -ℤ p) *ℤ q
falling_top p d q = by_ring (p ∷ d ∷ q ∷ []) (search ring depth 40) refl

falling_bottom : (d n q : ℤ) → (pos 1 *ℤ d) *ℤ (pos 1 *ℤ q -ℤ n *ℤ pos 1) ≡ d *ℤ (q -ℤ n)
falling_bottom d n q = by_ring (d ∷ n ∷ q ∷ []) (search ring depth 40) refl

-- if n/q is less than p/d, 1 - p/d is less than 1 - n/q
falling_at_most : (p d n q : ℤ) → (n *ℤ d) <ℤ (p *ℤ q) → ((d -ℤ p) *ℤ q) ≤ℤ (d *ℤ (q -ℤ n))
falling_at_most p d n q less =
    let left = sub_mul_z d p q in
    let right = mul_sub_z d q n in
    let swapped = mul_comm_z d n in
    omega (arith, ints)

-- one of two numbers that are not negative is less than the other, or is not
less_or_not : (x y : ℤ) → pos 0 ≤ℤ x → pos 0 ≤ℤ y → (x <ℤ y) ⊎ (y ≤ℤ x)
less_or_not x y h k =
    ⊎_elim (λ (less : unsigned_abs x < unsigned_abs y). inl (omega (arith, ints)))
    (λ (not : unsigned_abs y ≤ unsigned_abs x). inr (omega (arith, ints)))
    (cases_lt (unsigned_abs x) (unsigned_abs y))

pub gmic_small : (f x y : Frac) → IsInside f → unsigned_abs (denominator f) < 2 ^ 31 →
    unsigned_abs (denominator x) < 2 ^ 31 →
    IsGmicValue f x y → IsSmallCoefficient y
gmic_small f x y inside f_fine x_fine value =
    let w = int_div_euclid x.num x.den in
    let floor : IsFloor x w = quotient_is_floor x in
    let p = x.num -ℤ w *ℤ x.den in
    let (p_low, p_high) = rest_bounds x.num x.den w floor.at_most floor.next_above in
    let (f_low, f_high) = inside in
    let x_some = x.lowest.positive in
    let f_some = f.lowest.positive in
    let left = mul_nonnegative_z f.num x.den (omega (arith, ints)) (omega (arith, ints)) in
    let right = mul_nonnegative_z p f.den p_low (omega (arith, ints)) in
    ⊎_elim
    (λ (high : (f.num *ℤ x.den) <ℤ (p *ℤ f.den)).
    small_over y ((x.den -ℤ p) *ℤ f.den) (x.den *ℤ (f.den -ℤ f.num))
    (mul_nonnegative_z (x.den -ℤ p) f.den (omega (arith, ints)) (omega (arith, ints)))
    (falling_at_most p x.den f.num f.den high)
    (mul_positive_z x.den (f.den -ℤ f.num) x_some (omega (arith, ints)))
    (product_small x.den (f.den -ℤ f.num) x_fine (omega (arith, ints)))
    (subst₂ (IsRatio y) (falling_top p x.den f.den) (falling_bottom x.den f.num f.den)
    (value.falls w floor high)))
    (λ (low : (p *ℤ f.den) ≤ℤ (f.num *ℤ x.den)).
    let swapped = mul_comm_z f.num x.den in
    small_over y (p *ℤ f.den) (x.den *ℤ f.num) right (omega (arith, ints))
    (mul_positive_z x.den f.num x_some f_low)
    (product_small x.den f.num x_fine (omega (arith, ints)))
    (value.rises w floor (λ less. omega (arith, ints))))
    (less_or_not (f.num *ℤ x.den) (p *ℤ f.den) left right)
