-- Slopes as fractions over small bottoms, and their products with fractions that can stand in a
-- row.
use Rattle.std.proofs.Common.{◌≡◌, ℕ, ◌<◌, ◌≤◌, ◌^◌, ℤ, pos, neg_ℤ, ◌*ℤ◌, ◌<ℤ◌, ◌≤ℤ◌, unsigned_abs, sym, subst, subst₂, arith}
use Rattle.std.proofs.lemmas.Int.{ints}
use Rattle.std.proofs.lemmas.Nat.Gcd.{le_of_dvd}
use Rattle.gj_frac.specs.declared.Frac.{Frac}
use Rattle.std.specs.Int.{IsGcd}
use Rattle.gj_frac.specs.Fits.{FitsProduct}
use Rattle.gj_frac.specs.Fraction.{IsRatio, SameValue, fraction_of, negation_of, product_of}
use Rattle.gj_frac.proofs.OneDenominator.{denominator_divides_each}
use Rattle.gj_frac.proofs.SameValues.{parts_from_is}
use Rattle.gj_shape.specs.Limits.{IsRowNumber}
use Rattle.gj_rule.proofs.SmallParts.{small_product}
use Rattle.gj_lemmas.proofs.Integers.{abs_positive_z, mul_le_cancel_right_z, mul_le_mul_left_z, mul_le_mul_right_z, mul_nonnegative_z}
use Rattle.gj_mixed.specs.Slopes.{IsSlope, IsWeight}

-- a fraction a/b with small a and b, a at least 0 and b above 0, is a slope
pub slope_over : (x : Frac) (a b : ℤ) → pos 0 ≤ℤ a → pos 0 <ℤ b → unsigned_abs a ≤ 2 ^ 41 →
    unsigned_abs b ≤ 2 ^ 41 → IsRatio x a b → IsSlope x
slope_over x a b low some a_small b_small is =
    let positive = x.lowest.positive in
    let bound : unsigned_abs x.den ≤ unsigned_abs b =
    le_of_dvd (abs_positive_z b some) (denominator_divides_each x a b is) in
    let over = mul_nonnegative_z a x.den low (omega (arith, ints)) in
    let scaled = mul_le_mul_left_z x.den b a low (omega (arith, ints)) in
    let nonnegative : pos 0 ≤ℤ x.num =
    mul_le_cancel_right_z (pos 0) x.num b some (omega (arith, ints)) in
    let at_most : x.num ≤ℤ a = mul_le_cancel_right_z x.num a b some (omega (arith, ints)) in
    record {
      nonnegative = nonnegative;
      numerator_small = omega (arith, ints);
      denominator_small = omega (arith, ints);
    }

-- q times r over s, for r from 0 to s and q at most 1,000
pub slope_times : (x : Frac) (q s : ℕ) (r : ℤ) → q ≤ 1000 → 0 < s → s < 2 ^ 31 → pos 0 ≤ℤ r →
    r ≤ℤ pos s → IsRatio x (pos q *ℤ r) (pos s) →
    IsSlope x
slope_times x q s r few some small low high is =
    let nonnegative = mul_nonnegative_z (pos q) r (omega (arith, ints)) low in
    let at_most = mul_le_mul_right_z (pos q) (pos 1000) r low (omega (arith, ints)) in
    slope_over x (pos q *ℤ r) (pos s) nonnegative (omega (arith, ints)) (omega (arith, ints))
    (omega arith) is

-- ---- weights

-- the parts of a number that can stand in a row
pub row_parts : (c : Frac) → IsRowNumber c →
    (unsigned_abs c.num ≤ 2 ^ 62) × (unsigned_abs c.den ≤ 2 ^ 62)
row_parts c range = let small = range.small in let fine = range.fine in (omega arith, omega arith)

-- the parts of a fraction with its sign turned
pub turned_parts : (c z : Frac) → SameValue (fraction_of z) (negation_of (fraction_of c)) →
    (z.num ≡ neg_ℤ c.num) × (z.den ≡ c.den)
turned_parts c z is =
    let same : unsigned_abs (neg_ℤ c.num) ≡ unsigned_abs c.num = omega (arith, ints) in
    parts_from_is z (neg_ℤ c.num) c.den c.lowest.positive
    (subst (λ (n : ℕ). IsGcd n (unsigned_abs c.den) 1) (sym same) c.lowest.coprime) is

-- a slope can be multiplied by fractions with such parts
pub slope_product : (slope z : Frac) → IsSlope slope → unsigned_abs z.num ≤ 2 ^ 62 →
    unsigned_abs z.den ≤ 2 ^ 62 → FitsProduct slope z
slope_product slope z s n d =
    let top = s.numerator_small in
    let bottom = s.denominator_small in
    small_product slope z (omega arith) (omega arith) n d

pub falling_weight : (up down c z w : Frac) → c.num <ℤ pos 0 →
    (z.num ≡ neg_ℤ c.num) × (z.den ≡ c.den) →
    SameValue (fraction_of w) (product_of (fraction_of down) (fraction_of z)) → IsWeight up down c w
falling_weight up down c z w below parts is = record {
  rises = λ low. absurd (omega (arith, ints));
  falls = λ _. subst₂ (λ n d. SameValue (fraction_of w)
      (product_of (fraction_of down) (record { top = n; bottom = d }))) parts.0 parts.1 is;
}
