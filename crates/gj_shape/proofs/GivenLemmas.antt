-- The function of an order, a place and three lists of fractions over their least common
-- denominator.
use Rattle.std.proofs.Common.{◌≡◌, ℕ, ◌*◌, ◌/◌, ◌<◌, ℤ, pos, ◌*ℤ◌, List, ◌++◌, length, take, drop, map, get_or, All, unsigned_abs, refl, sym, subst, ◌∙◌}
use Rattle.std.proofs.Math.Nat.{one-dvd, one-mul, mul-div_cancel', mul_right_comm, mul-dvd-mul_right, dvd_of_mul-dvd-mul_right, pos_of_dvd_of_pos, dvd-mul_left}
use Rattle.std.proofs.lemmas.Nat.Gcd.{IsGcd-swap, dvd_antisymm}
use Rattle.std.proofs.lemmas.List.{length-map, get_or-map, take_at, drop_at}
use Rattle.std.proofs.lemmas.List.Elements.{All-same, All-take, All-drop, All-map}
use Rattle.std.proofs.lemmas.Int.{unsigned_abs-mul}
use Rattle.std.specs.Int.{◌∣◌, IsGcd}
use Rattle.gj_frac.specs.declared.Frac.{Frac}
use Rattle.gj_frac.specs.Fraction.{numerator, denominator}
use Rattle.gj_lemmas.proofs.Divisors.{cofactor, gauss}
use Rattle.gj_shape.specs.FunctionData.{FunctionData, IsSmallOver}
use Rattle.gj_shape.specs.Given.{in_order, IsSmall, IsCommonDenominator, IsOrder, IsPlace, HaveLength, IsGivenBy, numerator_over}
use Rattle.gj_shape.specs.Denominators.{AreWithinBoundsOver}
use Rattle.gj_shape.proofs.InOrder.{all_in_order, all_from_in_order}
use Rattle.gj_shape.proofs.NumeratorBounds.{numerator_small}

-- what holds of all entries of two lists holds of all of each
all_first : (P : ℤ → Type 0) (xs ys : List ℤ) → All P (xs ++ ys) → All P xs
all_first P xs ys h =
    All-same P xs (take (length xs) (xs ++ ys)) (sym (take_at xs ys (length xs) refl))
    (All-take P (length xs) (xs ++ ys) h)

all_second : (P : ℤ → Type 0) (xs ys : List ℤ) → All P (xs ++ ys) → All P ys
all_second P xs ys h =
    All-same P ys (drop (length xs) (xs ++ ys)) (sym (drop_at xs ys (length xs) refl))
    (All-drop P (length xs) (xs ++ ys) h)

-- what holds of all numerators
all_from_map : (P : ℤ → Type 0) (f : Frac → ℤ) (xs : List Frac) → All P (map f xs) →
    All (λ x. P (f x)) xs
all_from_map P f xs h k d l =
    subst P (get_or-map f xs k d (f d) l) (h k (f d) (subst (λ n. k < n) (sym (length-map xs f)) l))

-- if d c is the scale and d divides the numerator of n/b over the scale, c is a multiple of b
quotient_is_multiple : (n : ℤ) (b d c scale : ℕ) → IsGcd (unsigned_abs n) b 1 → b ∣ scale →
    0 < scale → scale ≡ d * c →
    d ∣ unsigned_abs (n *ℤ pos (scale / b)) → b ∣ c
quotient_is_multiple n b d c scale lowest h some e p =
    let s = scale / b in
    let scale_is : b * s ≡ scale = mul-div_cancel' b h in
    let s_some : 0 < s = pos_of_dvd_of_pos (subst (λ m. s ∣ m) scale_is (dvd-mul_left s b)) some in
    let size : unsigned_abs (n *ℤ pos s) ≡ unsigned_abs n * s = unsigned_abs-mul n (pos s) in
    let q : d * c ∣ unsigned_abs n * s * c = mul-dvd-mul_right d (subst (λ m. d ∣ m) size p) c in
    let r : b * s ∣ unsigned_abs n * c * s =
    subst (λ m. m ∣ unsigned_abs n * c * s) (sym e ∙ sym scale_is)
    (subst (λ m. d * c ∣ m) (mul_right_comm (unsigned_abs n) s c) q) in
    gauss b (unsigned_abs n) c (IsGcd-swap (unsigned_abs n) b 1 lowest)
    (dvd_of_mul-dvd-mul_right b s_some r)

-- the same for a list
quotient_is_common : (xs : List Frac) (d c scale : ℕ) → IsCommonDenominator xs scale → 0 < scale →
    scale ≡ d * c →
    All (λ n. d ∣ unsigned_abs n) (map (numerator_over scale) xs) → IsCommonDenominator xs c
quotient_is_common xs d c scale common some e h k x l =
    let y = get_or xs k x in
    quotient_is_multiple (numerator y) (unsigned_abs (denominator y)) d c scale y.lowest.coprime
    (common k x l) some e
    (all_from_map (λ n. d ∣ unsigned_abs n) (numerator_over scale) xs h k x l)

-- no number but 1 divides the least common denominator and all numerators over it
pub none_smaller : (l v r : List Frac) (scale d : ℕ) → length v ≡ length l → length r ≡ length l →
    AreWithinBoundsOver (in_order l v r) scale → d ∣ scale →
    All (λ n. d ∣ unsigned_abs n)
    (map (numerator_over scale) l ++ map (numerator_over scale) v ++ map
    (numerator_over scale) r) → d ≡ 1
none_smaller l v r scale d e f least h all =
    let P : ℤ → Type 0 = λ n. d ∣ unsigned_abs n in
    let ls = map (numerator_over scale) l in
    let vs = map (numerator_over scale) v in
    let rs = map (numerator_over scale) r in
    let (c, scale_is) = cofactor d scale h in
    let common = all_from_in_order (λ x. unsigned_abs (denominator x) ∣ scale) l v r e f
    least.least.common in
    let first = all_first P (ls ++ vs) rs all in
    let in_left = quotient_is_common l d c scale common.0 least.low scale_is
    (all_first P ls vs first) in
    let in_value = quotient_is_common v d c scale common.1 least.low scale_is
    (all_second P ls vs first) in
    let in_right = quotient_is_common r d c scale common.2 least.low scale_is
    (all_second P (ls ++ vs) rs all) in
    let whole : scale ∣ c =
    least.least.least c (all_in_order (λ x. unsigned_abs (denominator x) ∣ c) l v r e f in_left
    in_value in_right) in
    let c_some : 0 < c =
    pos_of_dvd_of_pos (subst (λ m. c ∣ m) (sym scale_is) (dvd-mul_left c d)) least.low in
    let one : d * c ∣ 1 * c =
    subst (λ m. d * c ∣ m) (sym (one-mul c)) (subst (λ m. m ∣ c) scale_is whole) in
    dvd_antisymm (dvd_of_mul-dvd-mul_right d c_some one) (one-dvd d)

-- the numerators are within the limit
numerators_small : (xs : List Frac) (scale : ℕ) → All IsSmall xs → IsCommonDenominator xs scale →
    All (IsSmallOver scale) (map (numerator_over scale) xs)
numerators_small xs scale small common =
    All-map (IsSmallOver scale) (numerator_over scale) xs
    (λ k d h. numerator_small _ _ scale (small k d h) (common k d h))

-- the function over the least common denominator
abbrev pub over_scale : ℕ → ℕ → ℕ → List Frac → List Frac → List Frac → FunctionData
over_scale q k scale l v r = record {
  order = q;
  place = k;
  scale = scale;
  left = map (numerator_over scale) l;
  value = map (numerator_over scale) v;
  right = map (numerator_over scale) r;
}

-- it is the function of this order and place with these limits and values
pub given_over_scale : (q k scale : ℕ) (l v r : List Frac) → IsOrder q → IsPlace q k →
    HaveLength l v r q →
    AreWithinBoundsOver (in_order l v r) scale → IsGivenBy q k l v r (over_scale q k scale l v r)
given_over_scale q k scale l v r order place lengths least =
    let e : length v ≡ length l = lengths.1 ∙ sym lengths.0 in
    let f : length r ≡ length l = lengths.2 ∙ sym lengths.0 in
    let small = all_from_in_order IsSmall l v r e f least.small in
    let common = all_from_in_order (λ x. unsigned_abs (denominator x) ∣ scale) l v r e f
    least.least.common in
    record {
      order = refl;
      place = refl;
      common = least.least.common;
      left_is = refl;
      value_is = refl;
      right_is = refl;
      within = record {
        order_low = order.0;
        order_high = order.1;
        place_low = place.0;
        place_high = place.1;
        scale_low = least.low;
        scale_high = least.high;
        left_length = length-map l (numerator_over scale) ∙ lengths.0;
        value_length = length-map v (numerator_over scale) ∙ lengths.1;
        right_length = length-map r (numerator_over scale) ∙ lengths.2;
        left_small = numerators_small l scale small.0 common.0;
        value_small = numerators_small v scale small.1 common.1;
        right_small = numerators_small r scale small.2 common.2;
        lowest = λ d h all. none_smaller l v r scale d e f least h all;
      };
    }

-- the same for lists that are these numerators
pub given_by_numerators : (q k scale : ℕ) (l v r : List Frac) (ls vs rs : List ℤ) → IsOrder q →
    IsPlace q k →
    HaveLength l v r q → AreWithinBoundsOver (in_order l v r) scale →
    ls ≡ map (numerator_over scale) l →
    vs ≡ map (numerator_over scale) v → rs ≡ map (numerator_over scale) r →
    IsGivenBy q k l v r (record {
      order = q;
      place = k;
      scale = scale;
      left = ls;
      value =
          vs;
      right = rs;
    })
given_by_numerators q k scale l v r ls vs rs order place lengths least left_is value_is right_is =
    let numerators = map (numerator_over scale) in
    let is_given : FunctionData → Type 0 = IsGivenBy q k l v r in
    let with_left : List ℤ →
    FunctionData = λ xs. record {
      order = q;
      place = k;
      scale = scale;
      left = xs;
      value =
          numerators v;
      right = numerators r;
    } in
    let with_value : List ℤ →
    FunctionData = λ xs. record {
      order = q;
      place = k;
      scale = scale;
      left = ls;
      value =
          xs;
      right = numerators r;
    } in
    let with_right : List ℤ →
    FunctionData = λ xs. record {
      order = q;
      place = k;
      scale = scale;
      left = ls;
      value =
          vs;
      right = xs;
    } in
    let first = subst (λ xs. is_given (with_left xs)) (sym left_is)
    (given_over_scale q k scale l v r order place lengths least) in
    let second = subst (λ xs. is_given (with_value xs)) (sym value_is) first in
    subst (λ xs. is_given (with_right xs)) (sym right_is) second
