-- Fractional parts, and the values of the mixed-integer cut for them.
use Rattle.std.proofs.Common.{◌≡◌, ◌≢◌, ℕ, ◌-◌, ◌*◌, ◌<◌, ◌≤◌, ◌↔◌, ℤ, pos, ◌-ℤ◌, ◌*ℤ◌, ◌<ℤ◌, ◌≤ℤ◌, [], ◌∷◌, unsigned_abs, refl, sym, ap, ap₂, subst, subst₂, ◌∙◌, arith}
use Rattle.std.proofs.Math.Nat.{eq-one_of_dvd-one, mul-pos}
use Rattle.std.proofs.lemmas.Int.{ints}
use Rattle.std.proofs.lemmas.Nat.Gcd.{dvd_refl, dvd-zero}
use Rattle.std.specs.Int.{◌∣◌, int_div_euclid, int_rem_euclid}
use Rattle.gj_frac.specs.declared.Frac.{Frac}
use Rattle.gj_frac.specs.Floor.{IsFloor, HasFractionalPart}
use Rattle.gj_frac.specs.Lowest.{IsLowest}
use Rattle.gj_frac.specs.Fraction.{IsRatio, IsWhole, IsInside, numerator, denominator}
use Rattle.gj_frac.proofs.Floors.{quotient_at_most, next_quotient_above, quotient_is_floor, rest_is, rest_from_floor, rest_lowest}
use Rattle.gj_frac.proofs.SameValues.{is_along}
use Rattle.gj_lemmas.proofs.Integers.{add_mul_z, mul_comm_z, pos-*ℤ-pos, positive_some_z}
use Rattle.gj_lemmas.proofs.Ratios.{ratio_along}
use Rattle.gj_lemmas.proofs.Ring.{by_ring, ring}
use Rattle.gj_theory.specs.Cuts.{IsGmicValue}
use Rattle.gj_values.proofs.OneValue.{one_part, one_gmic_value}
use Rattle.gj_proof.specs.Rules.{IsGmicCoefficient}
use Rattle.gj_check.proofs.Ratios.{denominator_is}

-- ---- the fractional part of a number

-- what a division by the denominator leaves lies from 0 to below it
rest_within : (x : Frac) → (pos 0 ≤ℤ int_rem_euclid x.num x.den)
    × (int_rem_euclid x.num x.den <ℤ x.den)
rest_within x =
    let low = quotient_at_most x.num x.den x.lowest.positive in
    let high = next_quotient_above x.num x.den x.lowest.positive in
    let next = add_mul_z (int_div_euclid x.num x.den) (pos 1) x.den in
    let rest = rest_is x.num x.den x.lowest.positive in
    (omega (arith, ints), omega (arith, ints))

-- so it is in lowest terms over the denominator
pub rest_is_lowest : (x : Frac) → IsLowest (int_rem_euclid x.num x.den) x.den
rest_is_lowest x =
    let within = rest_within x in
    rest_lowest x.num x.den (int_rem_euclid x.num x.den) x.lowest refl within.0
    (omega (arith, ints))

-- the fractional part of a number
abbrev pub part_of : Frac → Frac
part_of x = record { num = int_rem_euclid x.num x.den; den = x.den; lowest = rest_is_lowest x }

pub is_part : (x : Frac) → HasFractionalPart x (numerator (part_of x)) (denominator (part_of x))
is_part x w floor = ap (λ z. z *ℤ x.den) (sym (rest_from_floor x w floor))

-- a fractional part n/d is that one
pub part_is : (x : Frac) (n d : ℤ) → HasFractionalPart x n d → IsRatio (part_of x) n d
part_is x n d part = ap (λ z. z *ℤ d) (rest_is x.num x.den x.lowest.positive)
    ∙ part _ (quotient_is_floor x)

-- that of a whole number is 0
pub part_of_whole : (x : Frac) → IsWhole x → numerator (part_of x) ≡ pos 0
part_of_whole x whole = let within = rest_within x in omega (arith, ints)

-- and that of another number lies between 0 and 1
pub part_inside : (x f : Frac) → (IsWhole x → ⊥) →
    HasFractionalPart x (numerator f) (denominator f) → IsInside f
part_inside x f not_whole part =
    let p = part_of x in
    let within = rest_within x in
    let some : numerator p ≢ pos 0 = λ none. not_whole (whole none) in
    subst IsInside (one_part x p f (is_part x) part) (omega (arith, ints, some), within.1)
  where
    whole : int_rem_euclid x.num x.den ≡ pos 0 → IsWhole x
    whole none =
        let d = unsigned_abs x.den in
        let divides : d ∣ unsigned_abs (int_rem_euclid x.num x.den) =
        subst (λ (z : ℤ). d ∣ unsigned_abs z) (sym none) (dvd-zero d) in
        let one = eq-one_of_dvd-one ((part_of x).lowest.coprime.2 d divides (dvd_refl d)) in
        let positive = x.lowest.positive in
        omega (arith, ints)

-- a fraction y that is what each floor leaves of x is n/d exactly if x has that fractional part
pub part_is_fraction : (x y : Frac) (n d : ℤ) →
    ((w : ℤ) → IsFloor x w → IsRatio y (numerator x -ℤ w *ℤ denominator x) (denominator x)) →
    IsRatio y n d ↔ HasFractionalPart x n d
part_is_fraction x y n d y_is = (
  λ is w floor. ratio_along _ x.den y.num y.den n d (positive_some_z y.den y.lowest.positive)
      (sym (y_is w floor)) is,
  λ part.
      let floor = quotient_is_floor x in
      is_along y _ x.den n d (positive_some_z x.den x.lowest.positive) (y_is _ floor)
      (part _ floor),
)

-- ---- the coefficient of a term

-- the value for a fractional part of the right side is it
pub gmic_coefficient : (right f entry x : Frac) →
    HasFractionalPart right (numerator f) (denominator f) → IsGmicValue f entry x →
    IsGmicCoefficient right entry x
gmic_coefficient right f entry x part value g other =
    subst (λ (h : Frac). IsGmicValue h entry x) (one_part right f g part other) value

-- there is one at most
pub one_gmic : (right entry x y : Frac) → (IsWhole right → ⊥) → IsGmicCoefficient right entry x →
    IsGmicCoefficient right entry y → x ≡ y
one_gmic right entry x y not_whole h k =
    let f = part_of right in
    let part = is_part right in
    one_gmic_value f entry x y (part_inside right f not_whole part) (h f part) (k f part)

-- ---- the coefficient as it is computed

-- p is the numerator of the fractional part of the right side over its denominator q, and r that of
-- the entry's over d
pub record AreParts (right entry : Frac) (p q r d : ℕ) : Type 0 where
  place : pos p ≡ numerator (part_of right)
  right_over : pos q ≡ denominator right
  index : (w : ℤ) → IsFloor entry w → pos r ≡ numerator entry -ℤ w *ℤ denominator entry
  entry_over : pos d ≡ denominator entry

abbrev pub IsRestOf : ℕ → Frac → Type 0
IsRestOf r x = (w : ℤ) → IsFloor x w → pos r ≡ numerator x -ℤ w *ℤ denominator x

pub are_parts : (right entry : Frac) (p q r d : ℕ) → IsRestOf p right →
    q ≡ unsigned_abs (denominator right) → IsRestOf r entry →
    d ≡ unsigned_abs (denominator entry) → AreParts right entry p q r d
are_parts right entry p q r d p_is q_is r_is d_is = record {
  place = p_is _ (quotient_is_floor right)
      ∙ sym (rest_is right.num right.den right.lowest.positive);
  right_over = ap pos q_is ∙ sym (denominator_is right);
  index = r_is;
  entry_over = ap pos d_is ∙ sym (denominator_is entry);
}

product_z : (a b : ℕ) (n m : ℤ) → pos a ≡ n → pos b ≡ m → pos (a * b) ≡ n *ℤ m
product_z a b n m e f = sym (pos-*ℤ-pos a b) ∙ ap₂ (λ x y. x *ℤ y) e f

-- a part that is not that of a whole number is not 0
pub place_some : (right entry : Frac) (p q r d : ℕ) → (IsWhole right → ⊥) →
    AreParts right entry p q r d → 0 < p * d
place_some right entry p q r d not_whole parts =
    let low = (part_inside right (part_of right) not_whole (is_part right)).0 in
    let place = parts.place in
    let over = parts.entry_over in
    let some = entry.lowest.positive in
    mul-pos (omega (arith, ints)) (omega (arith, ints))

-- the parts in the order of their products
place_z : (right entry : Frac) (p q r d : ℕ) → AreParts right entry p q r d →
    pos (p * d) ≡ numerator (part_of right) *ℤ denominator entry
place_z right entry p q r d parts = product_z p d _ _ parts.place parts.entry_over

index_z : (right entry : Frac) (p q r d : ℕ) → AreParts right entry p q r d → (w : ℤ) →
    IsFloor entry w →
    pos (r * q) ≡ (numerator entry -ℤ w *ℤ denominator entry) *ℤ denominator right
index_z right entry p q r d parts w floor = product_z r q _ _ (parts.index w floor) parts.right_over

pub gmic_rising : (right entry x : Frac) (p q r d : ℕ) → AreParts right entry p q r d →
    r * q ≤ p * d →
    IsRatio x (pos (r * q)) (pos (p * d)) ↔ IsGmicCoefficient right entry x
gmic_rising right entry x p q r d parts low =
    let place = place_z right entry p q r d parts in
    let over = place ∙ mul_comm_z (numerator (part_of right)) entry.den in
    let index = index_z right entry p q r d parts in (
      λ is. gmic_coefficient right (part_of right) entry x (is_part right) (record {
        rises = λ w floor h. subst₂ (IsRatio x) (index w floor) over is;
        falls = λ w floor above. let same = index w floor in absurd (omega (arith, ints));
      }),
      λ value.
          let w = int_div_euclid entry.num entry.den in
          let floor = quotient_is_floor entry in
          let same = index w floor in
          subst₂ (IsRatio x) (sym same) (sym over)
          ((value (part_of right) (is_part right)).rises w floor (λ above. omega (arith, ints))),
    )

top_z : (q d r : ℤ) → q *ℤ d -ℤ r *ℤ q ≡ (pos 1 *ℤ d -ℤ r *ℤ pos 1) *ℤ (pos 1 *ℤ q)
top_z q d r = by_ring (q ∷ d ∷ r ∷ []) (search ring depth 30) refl

bottom_z : (q d p : ℤ) → q *ℤ d -ℤ p *ℤ d ≡ (pos 1 *ℤ d) *ℤ (pos 1 *ℤ q -ℤ p *ℤ pos 1)
bottom_z q d p = by_ring (q ∷ d ∷ p ∷ []) (search ring depth 30) refl

difference_z : (a b : ℕ) (n m : ℤ) → b ≤ a → pos a ≡ n → pos b ≡ m → pos (a - b) ≡ n -ℤ m
difference_z a b n m low e f = omega (arith, ints)

pub gmic_falling : (right entry x : Frac) (p q r d : ℕ) → AreParts right entry p q r d →
    p * d < r * q → r * q ≤ q * d → p * d ≤ q * d →
    IsRatio x (pos (q * d - r * q)) (pos (q * d - p * d)) ↔ IsGmicCoefficient right entry x
gmic_falling right entry x p q r d parts high index_low place_low =
    let period = product_z q d _ _ parts.right_over parts.entry_over in
    let place = place_z right entry p q r d parts in
    let index = index_z right entry p q r d parts in
    let bottom =
    difference_z (q * d) (p * d) _ _ place_low period place
    ∙ bottom_z right.den entry.den (numerator (part_of right)) in
    let top = λ (w : ℤ) (floor : IsFloor entry w).
    difference_z (q * d) (r * q) _ _ index_low period (index w floor)
    ∙ top_z right.den entry.den (entry.num -ℤ w *ℤ entry.den) in (
      λ is. gmic_coefficient right (part_of right) entry x (is_part right) (record {
        rises = λ w floor low. let same = index w floor in absurd (low (omega (arith, ints)));
        falls = λ w floor h. subst₂ (IsRatio x) (top w floor) bottom is;
      }),
      λ value.
          let w = int_div_euclid entry.num entry.den in
          let floor = quotient_is_floor entry in
          let same = index w floor in
          subst₂ (IsRatio x) (sym (top w floor)) (sym bottom)
          ((value (part_of right) (is_part right)).falls w floor (omega (arith, ints))),
    )
