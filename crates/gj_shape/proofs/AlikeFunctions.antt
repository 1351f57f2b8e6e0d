-- Functions with the same values and limits, each over its own scale, are equal.
use Rattle.std.proofs.Common.{◌≡◌, ◌≢◌, inl, ℕ, ◌*◌, ◌<◌, ℤ, pos, ◌*ℤ◌, List, ◌++◌, length, All, unsigned_abs, sym, ap, subst, subst₂, ◌∙◌, arith}
use Rattle.std.proofs.Math.Nat.{mul_comm, mul_assoc, mul-one, dvd-mul_left, eq_of_mul-eq-mul_right}
use Rattle.std.proofs.lemmas.Nat.Gcd.{dvd_antisymm}
use Rattle.std.proofs.lemmas.Int.{unsigned_abs-mul}
use Rattle.std.proofs.lemmas.List.{get_or_default, same_lists}
use Rattle.std.proofs.lemmas.List.Elements.{All-append}
use Rattle.std.specs.Int.{IsGcd, ◌∣◌}
use Rattle.gj_lemmas.proofs.Divisors.{cofactor, divides_product, gauss, gcd_exists, gcd_positive, gcd_quotients}
use Rattle.gj_lemmas.proofs.Integers.{mul_cancel_right_z}
use Rattle.gj_shape.specs.FunctionData.{FunctionData, IsWithinBounds, at}
use Rattle.gj_shape.proofs.AtLemmas.{at_below}

-- ---- lists of numerators over two scales

-- the entries over s are those over t
abbrev pub HaveSameRatios : ℕ → List ℤ → List ℤ → ℕ → ℕ → Type 0
HaveSameRatios n xs ys s t = (i : ℕ) → i < n → at xs i *ℤ pos t ≡ at ys i *ℤ pos s

-- if s = a c and t = b c, and a and b have only 1 in common, a divides each entry
part_divides : (x y : ℤ) (a b c : ℕ) → IsGcd a b 1 → 0 < c → x *ℤ pos (b * c) ≡ y *ℤ pos (a * c) →
    a ∣ unsigned_abs x
part_divides x y a b c alone some e =
    let sizes : unsigned_abs x * (b * c) ≡ unsigned_abs y * (a * c) =
    sym (unsigned_abs-mul x (pos (b * c))) ∙ ap unsigned_abs e ∙ unsigned_abs-mul y (pos (a * c)) in
    let regrouped : (unsigned_abs x * b) * c ≡ (unsigned_abs y * a) * c =
    mul_assoc (unsigned_abs x) b c ∙ sizes ∙ sym (mul_assoc (unsigned_abs y) a c) in
    let same : unsigned_abs x * b ≡ unsigned_abs y * a =
    eq_of_mul-eq-mul_right c some (unsigned_abs x * b) (unsigned_abs y * a) regrouped in
    gauss a b (unsigned_abs x) alone
    (subst (λ n. a ∣ n) (sym (mul_comm b (unsigned_abs x) ∙ same))
    (dvd-mul_left a (unsigned_abs y)))

parts_divide : (n : ℕ) (xs ys : List ℤ) (a b c : ℕ) → length xs ≡ n → IsGcd a b 1 → 0 < c →
    HaveSameRatios n xs ys (a * c) (b * c) → All (λ x. a ∣ unsigned_abs x) xs
parts_divide n xs ys a b c len alone some same k d h =
    subst (λ x. a ∣ unsigned_abs x) (at_below xs k h ∙ sym (get_or_default xs k d (pos 0) h))
    (part_divides (at xs k) (at ys k) a b c alone some (same k (omega arith)))

-- lists over one scale
same_over : (n : ℕ) (xs ys : List ℤ) (s : ℕ) → length xs ≡ n → length ys ≡ n → 0 < s →
    HaveSameRatios n xs ys s s → xs ≡ ys
same_over n xs ys s e d some same =
    same_lists xs ys (e ∙ sym d)
    (λ k z h.
    let in_ys : k < length ys = omega arith in
    let s_some : unsigned_abs (pos s) ≢ 0 = omega arith in
    get_or_default xs k z (pos 0) h ∙ sym (at_below xs k h)
    ∙ mul_cancel_right_z (at xs k) (at ys k) (pos s) (same k (omega arith)) s_some
    ∙ at_below ys k in_ys ∙ get_or_default ys k (pos 0) z in_ys)

-- ---- functions

-- two functions with one order and place have the same values and limits
pub record AreAlike (f g : FunctionData) : Type 0 where
  pub order : f.order ≡ g.order
  pub place : f.place ≡ g.place
  pub left : HaveSameRatios f.order f.left g.left f.scale g.scale
  pub value : HaveSameRatios f.order f.value g.value f.scale g.scale
  pub right : HaveSameRatios f.order f.right g.right f.scale g.scale

scale_divides : (f g : FunctionData) → IsWithinBounds f → AreAlike f g → f.scale ∣ g.scale
scale_divides f g within h =
    let (c, gcd) = gcd_exists f.scale g.scale in
    let low : 0 < f.scale = within.scale_low in
    let some : 0 < c = gcd_positive f.scale g.scale c gcd (inl low) in
    let (a, first) = cofactor c f.scale gcd.0 in
    let (b, second) = cofactor c g.scale gcd.1 in
    let s_is : f.scale ≡ a * c = first ∙ mul_comm c a in
    let t_is : g.scale ≡ b * c = second ∙ mul_comm c b in
    let alone : IsGcd a b 1 =
    gcd_quotients a b c (subst₂ (λ m n. IsGcd m n c) s_is t_is gcd) some in
    let P : ℤ → Type 0 = λ x. a ∣ unsigned_abs x in
    let all : (xs ys : List ℤ) → length xs ≡ f.order →
    HaveSameRatios f.order xs ys f.scale g.scale → All P xs =
    λ xs ys len same. parts_divide f.order xs ys a b c len alone some
    (subst₂ (HaveSameRatios f.order xs ys) s_is t_is same) in
    let one : a ≡ 1 = within.lowest a (divides_product a f.scale c s_is)
    (All-append P (f.left ++ f.value) f.right
    (All-append P f.left f.value (all f.left g.left within.left_length h.left)
    (all f.value g.value within.value_length h.value))
    (all f.right g.right within.right_length h.right)) in
    subst (λ n. n ∣ g.scale) (sym (first ∙ ap (λ n. c * n) one ∙ mul-one c)) gcd.1

turned : (f g : FunctionData) → AreAlike f g → AreAlike g f
turned f g h = record {
  order = sym h.order;
  place = sym h.place;
  left = λ i low. sym (h.left i (subst (λ n. i < n) (sym h.order) low));
  value = λ i low. sym (h.value i (subst (λ n. i < n) (sym h.order) low));
  right = λ i low. sym (h.right i (subst (λ n. i < n) (sym h.order) low));
}

pub alike_are_same : (f g : FunctionData) → IsWithinBounds f → IsWithinBounds g → AreAlike f g →
    f ≡ g
alike_are_same f g in_f in_g h =
    let scale : f.scale ≡ g.scale =
    dvd_antisymm (scale_divides f g in_f h) (scale_divides g f in_g (turned f g h)) in
    let lists : (xs ys : List ℤ) → length xs ≡ f.order → length ys ≡ g.order →
    HaveSameRatios f.order xs ys f.scale g.scale → xs ≡ ys =
    λ xs ys e d same. same_over f.order xs ys f.scale e (d ∙ sym h.order) in_f.scale_low
    (subst (HaveSameRatios f.order xs ys f.scale) (sym scale) same) in
    let left : f.left ≡ g.left = lists f.left g.left in_f.left_length in_g.left_length h.left in
    let value : f.value ≡ g.value =
    lists f.value g.value in_f.value_length in_g.value_length h.value in
    let right : f.right ≡ g.right =
    lists f.right g.right in_f.right_length in_g.right_length h.right in
    λ i. record {
      order = h.order i;
      place = h.place i;
      scale = scale i;
      left = left i;
      value =
          value i;
      right = right i;
    }

-- continuous functions by their values
pub continuous_alike : (f g : FunctionData) → f.order ≡ g.order → f.place ≡ g.place →
    (f.left ≡ f.value) × (f.right ≡ f.value) →
    (g.left ≡ g.value) × (g.right ≡ g.value) →
    HaveSameRatios f.order f.value g.value f.scale g.scale → AreAlike f g
continuous_alike f g order place in_f in_g same = record {
  order = order;
  place = place;
  left = subst₂ (λ xs ys. HaveSameRatios f.order xs ys f.scale g.scale) (sym in_f.0)
      (sym in_g.0) same;
  value = same;
  right = subst₂ (λ xs ys. HaveSameRatios f.order xs ys f.scale g.scale) (sym in_f.1)
      (sym in_g.1) same;
}
