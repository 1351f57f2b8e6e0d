-- The value of the fill-in at a fraction, by the place of the fraction.
use Rattle.std.proofs.Common.{◌≡◌, ℕ, inl, inr, ◌+◌, ◌-◌, ◌*◌, ◌/◌, ◌%◌, ◌<◌, ◌^◌, ℤ, pos, ◌<ℤ◌, ◌+ℤ◌, ◌*ℤ◌, [], ◌∷◌, unsigned_abs, refl, sym, ap, ap₂, subst, ◌∙◌, arith}
use Rattle.std.specs.Int.{int_min}
use Rattle.std.proofs.Math.Nat.{div-add-mod', mod-lt, mul-le-mul_right, mul-lt-mul_of_pos_left}
use Rattle.std.proofs.lemmas.Bool.{cases_lt}
use Rattle.std.proofs.lemmas.Int.{ints}
use Rattle.gj_lemmas.proofs.Quotients.{same_at_remainder}
use Rattle.gj_lemmas.proofs.Ring.{by_ring, ring}
use Rattle.gj_frac.specs.declared.Frac.{Frac}
use Rattle.gj_frac.specs.Fraction.{IsRatio, numerator, denominator}
use Rattle.gj_shape.specs.FunctionData.{FunctionData, IsWithinBounds, at}
use Rattle.gj_shape.specs.Values.{IsCongruent}
use Rattle.gj_shape.proofs.TableLemmas.{at_plus_order}
use Rattle.gj_shape.proofs.ValueLemmas.{congruent_rests, congruent_join}
use Rattle.gj_fill.specs.FillIn.{filled, filled_between, AreGreatestSteps}
use Rattle.gj_fill.specs.FilledValue.{IsFilledValue, IsPlaceOf}
use Rattle.gj_fill.specs.declared.at_fractions.Place.{Place}
use Rattle.gj_fill.proofs.FillIns.{filled_at, filled_period}

-- ---- places

pub moved_place : (a k q d : ℤ) → (a +ℤ k *ℤ d) *ℤ q ≡ q *ℤ a +ℤ k *ℤ (q *ℤ d)
moved_place a k q d = by_ring (a ∷ k ∷ q ∷ d ∷ []) (search ring depth 30) refl

-- the place of a fraction with this rest above its floor
pub place_of_rest : (n : ℤ) (q d rest i : ℕ) → IsCongruent n (pos rest) d → i ≡ q * rest →
    IsCongruent (n *ℤ pos q) (pos i) (q * d)
place_of_rest n q d rest i (k, e) i_is = (
  k,
  ap (λ z. z *ℤ pos q) e ∙ moved_place (pos rest) k (pos q) (pos d)
      ∙ ap (λ j. pos j +ℤ k *ℤ pos (q * d)) (sym i_is),
)

-- the place by the numbers that make it
pub place_by_parts : (q : ℕ) (x : Frac) (p : Place) (rest i : ℕ) → 0 < q →
    0 < unsigned_abs (denominator x) →
    rest < unsigned_abs (denominator x) → i ≡ q * rest →
    IsCongruent (numerator x) (pos rest) (unsigned_abs (denominator x)) →
    p.index ≡ i / unsigned_abs (denominator x) → p.part ≡ pos (i % unsigned_abs (denominator x)) →
    p.rest ≡ pos (unsigned_abs (denominator x) - i % unsigned_abs (denominator x)) →
    p.parts ≡ pos (unsigned_abs (denominator x)) →
    IsPlaceOf q x p
place_by_parts q x p rest i q_some some below i_is congruent index_is part_is rest_is parts_are =
    let d = unsigned_abs (denominator x) in
    let split : i / d * d + i % d ≡ i = div-add-mod' i d in
    let less : q * rest < q * d = mul-lt-mul_of_pos_left below q_some in
    record {
      part = i % d;
      part_is = part_is;
      rest_is = rest_is;
      parts_are = parts_are;
      before_next = mod-lt i some;
      index_below = subst (λ n. n < q) (sym index_is) (elim (cases_lt (i / d) q) [
        | inl low ↦ low
        | inr high ↦ let more = mul-le-mul_right d high in absurd (omega arith)
      ]);
      place = subst (λ n. IsCongruent (numerator x *ℤ pos q) (pos (n * d + i % d)) (q * d))
          (sym index_is)
          (place_of_rest (numerator x) q d rest (i / d * d + i % d) congruent (split ∙ i_is));
    }

positive_number : (n : ℕ) → 0 < n → pos 0 <ℤ pos n
positive_number n some = omega (arith, ints)

-- the parts of a place for a denominator below 2^31
pub record AreSmallParts (p : Place) : Type 0 where
  pub parts : unsigned_abs p.parts < 2 ^ 31
  pub part : unsigned_abs p.part < 2 ^ 31
  pub rest : unsigned_abs p.rest < 2 ^ 31
  pub some : pos 0 <ℤ p.parts

pub small_parts : (q : ℕ) (x : Frac) (p : Place) → IsPlaceOf q x p →
    unsigned_abs (denominator x) < 2 ^ 31 → AreSmallParts p
small_parts q x p h fine =
    let below = h.before_next in record {
      parts = subst (λ z. unsigned_abs z < 2 ^ 31) (sym h.parts_are) fine;
      part = subst (λ z. unsigned_abs z < 2 ^ 31) (sym h.part_is) (omega arith);
      rest = subst (λ z. unsigned_abs z < 2 ^ 31) (sym h.rest_is) (omega arith);
      some = subst (λ (z : ℤ). pos 0 <ℤ z) (sym h.parts_are)
          (positive_number (unsigned_abs (denominator x)) (omega arith));
    }

-- ---- sums of two products, of equal numbers

pub same_sum : (x x' y y' u u' w w' : ℤ) → x ≡ x' → y ≡ y' → u ≡ u' → w ≡ w' →
    x *ℤ y +ℤ u *ℤ w ≡ x' *ℤ y' +ℤ u' *ℤ w'
same_sum x x' y y' u u' w w' a b c d =
    ap₂ (λ m n. m +ℤ n) (ap₂ (λ m n. m *ℤ n) a b) (ap₂ (λ m n. m *ℤ n) c d)

-- ---- values

-- what the fill-in has at the place of x is its value at x
pub value_at_place : (f : FunctionData) (x y : Frac) (p : Place) (s t lesser : ℤ) →
    IsWithinBounds f → AreGreatestSteps (at f.value) s t →
    (h : IsPlaceOf f.order x p) →
    lesser ≡ filled_between (at f.value) s t (unsigned_abs (denominator x)) p.index h.part →
    IsRatio y lesser (pos f.scale *ℤ pos (unsigned_abs (denominator x))) → IsFilledValue f x y
value_at_place f x y p s t lesser bounds greatest h lesser_is is =
    let d = unsigned_abs (denominator x) in
    let i = p.index * d + h.part in
    let some : 0 < d = let low = h.before_next in omega arith in
    let here : filled (at f.value) s t d i ≡ filled_between (at f.value) s t d p.index h.part =
    filled_at (at f.value) s t d p.index h.part i refl h.before_next in
    let period = filled_period (at f.value) s t d f.order some
    (λ a. at_plus_order f.value a f.order bounds.value_length) in
    record {
      rise = s;
      fall = t;
      greatest = greatest;
      value = λ j k.
          let rests : j % (f.order * d) ≡ i % (f.order * d) =
          congruent_rests j i _
          (congruent_join (pos j) (numerator x *ℤ pos f.order) (pos i) _ k h.place) in
          let same : filled (at f.value) s t d i ≡ filled (at f.value) s t d j =
          same_at_remainder (filled (at f.value) s t d) (f.order * d) period i j (sym rests) in
          subst (λ z. IsRatio y z (pos (f.scale * d))) (lesser_is ∙ sym here ∙ same) is;
    }

-- the same by the lines at the place
pub value_by_lines : (f : FunctionData) (x y : Frac) (q : ℕ) (p : Place)
    (s t rising falling lesser : ℤ) (n : ℕ) (w : ℤ) →
    IsWithinBounds f → q ≡ f.order → n ≡ f.scale → w ≡ p.parts → AreGreatestSteps (at f.value) s t →
    IsPlaceOf q x p →
    rising ≡ p.parts *ℤ at f.value p.index +ℤ p.part *ℤ s →
    falling ≡ p.parts *ℤ at f.value (p.index + 1) +ℤ p.rest *ℤ t →
    lesser ≡ int_min rising falling → IsRatio y lesser (pos n *ℤ w) → IsFilledValue f x y
value_by_lines f x y q p s t rising falling lesser n w bounds q_is n_is w_is steps place rising_is
    falling_is lesser_is is =
    let h : IsPlaceOf f.order x p = subst (λ m. IsPlaceOf m x p) q_is place in
    let first = rising_is ∙ ap₂ (λ u v. u *ℤ at f.value p.index +ℤ v *ℤ s) h.parts_are h.part_is in
    let second = falling_is
    ∙ ap₂ (λ u v. u *ℤ at f.value (p.index + 1) +ℤ v *ℤ t) h.parts_are h.rest_is in
    value_at_place f x y p s t lesser bounds steps h
    (lesser_is ∙ ap₂ int_min first second)
    (subst (λ (z : ℤ). IsRatio y lesser (pos f.scale *ℤ z)) (w_is ∙ h.parts_are)
    (subst (λ (m : ℕ). IsRatio y lesser (pos m *ℤ w)) n_is is))
