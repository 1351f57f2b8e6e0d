-- The rational numbers without bound are an ordered field with floors: so the laws of such fields
-- do not contradict each other.
use Rattle.std.proofs.Common.{◌≡◌, ◌≢◌, ◌⊎◌, inl, inr, ⊎_elim, Bool, true, false, T, [], ◌∷◌, ℕ, zero, suc, ◌*◌, ◌/◌, ◌+◌, ◌<◌, ℤ, pos, negsuc, unsigned_abs, ◌+ℤ◌, ◌*ℤ◌, ◌<ℤ◌, ◌≤ℤ◌, refl, sym, subst, ap, ◌∙◌, arith}
use Rattle.std.proofs.Math.Nat.{mod-lt, div-add-mod'}
use Rattle.std.proofs.lemmas.Int.{ints}
use Rattle.std.specs.Int.{int_div_euclid}
use lib.Signed.{le_z}
use Rattle.gj_lemmas.proofs.Integers.{same_or_apart_z, mul_cancel_right_z, mul_some_z, positive_some_z, abs_zero_z}
use Rattle.gj_lemmas.proofs.Ring.{by_ring, ring}
use Rattle.gj_fields.specs.Fields as f
use Rattle.gj_fields.specs.Fields.{OrderedField, HasFloor, number}
use Rattle.gj_fields.proofs.Order.{either}
use Rattle.gj_fields.specs.Rational.{Rational, reduced, over, whole, ◌+ℚ◌, ◌*ℚ◌, neg_ℚ, ◌-ℚ◌, ◌≤ℚ◌}
use Rattle.gj_fields.proofs.RationalLaws.{equal_q, product_is, add_assoc_q, add_comm_q, add_zero_q, add_neg_q, mul_assoc_q, mul_comm_q, mul_one_q, mul_add_q, whole_add, whole_neg, whole_injective}
use Rattle.gj_fields.proofs.RationalOrder.{IsNonnegativeQ, nonnegative_mul, difference_nonnegative, at_most_from_difference, at_most_trans}
use Rattle.gj_fields.proofs.RationalRing.{by_ring_q, ring_q}

-- ---- order

true_of : (b : Bool) → T b → b ≡ true
true_of true h = refl
true_of false h = absurd h

pub le_yes : (x y : ℤ) → le_z x y ≡ true → x ≤ℤ y
le_yes x y h = record { le = subst T (sym h) tt }

pub yes_le : (x y : ℤ) → x ≤ℤ y → le_z x y ≡ true
yes_le x y h = true_of (le_z x y) h.le

abbrev pub at_most_q : Rational → Rational → Bool
at_most_q x y = le_z (x.top *ℤ y.bottom) (y.top *ℤ x.bottom)

pub most_from : (x y : Rational) → at_most_q x y ≡ true → x ≤ℚ y
most_from x y h = record { crosswise = le_yes _ _ h }

pub most_is : (x y : Rational) → x ≤ℚ y → at_most_q x y ≡ true
most_is x y h = yes_le _ _ h.crosswise

pub either_way : (x y : ℤ) → (x ≤ℤ y) ⊎ (y ≤ℤ x)
either_way x y =
    ⊎_elim (λ yes. inl (le_yes x y yes))
    (λ other. inr (le_yes y x (turned x y other)))
    (either (le_z x y))
  where
    turned : (x y : ℤ) → le_z x y ≡ false → le_z y x ≡ true
    turned x y other = yes_le y x (let apart : x ≤ℤ y → ⊥ = λ h. let same : true ≡ false =
        sym (yes_le x y h) ∙ other in cc in omega (arith, ints))

pub both : (x y : ℤ) → x ≤ℤ y → y ≤ℤ x → x ≡ y
both x y h k = omega (arith, ints)

pub plus_keeps_q : (x y z : Rational) → x ≤ℚ y → (x +ℚ z) ≤ℚ (y +ℚ z)
plus_keeps_q x y z h =
    at_most_from_difference (x +ℚ z) (y +ℚ z)
    (subst IsNonnegativeQ (shifted x y z) (difference_nonnegative x y h))
  where
    shifted : (x y z : Rational) → y -ℚ x ≡ (y +ℚ z) -ℚ (x +ℚ z)
    shifted x y z = by_ring_q (x ∷ y ∷ z ∷ []) (search ring_q depth 40) refl

less_zero : (x : Rational) → x -ℚ whole (pos 0) ≡ x
less_zero x = by_ring_q (x ∷ []) (search ring_q depth 30) refl

pub times_keeps_q : (x y : Rational) → whole (pos 0) ≤ℚ x → whole (pos 0) ≤ℚ y →
    whole (pos 0) ≤ℚ (x *ℚ y)
times_keeps_q x y h k =
    at_most_from_difference (whole (pos 0)) (x *ℚ y)
    (subst IsNonnegativeQ (sym (less_zero (x *ℚ y)))
    (nonnegative_mul x y
    (subst IsNonnegativeQ (less_zero x) (difference_nonnegative (whole (pos 0)) x h))
    (subst IsNonnegativeQ (less_zero y) (difference_nonnegative (whole (pos 0)) y k))))

-- ---- inverses

square_positive : (z : ℤ) → z ≢ pos 0 → pos 0 <ℤ (z *ℤ z)
square_positive z apart =
    let some : unsigned_abs z ≢ 0 = λ h. apart (abs_zero_z z h) in
    let square = mul_some_z z z some some in
    let low = square_low z in
    positive_from (z *ℤ z) low square
  where
    square_low : (z : ℤ) → pos 0 ≤ℤ (z *ℤ z)
    square_low (pos n) = omega (arith, ints)
    square_low (negsuc n) = omega (arith, ints)

    positive_from : (z : ℤ) → pos 0 ≤ℤ z → unsigned_abs z ≢ 0 → pos 0 <ℤ z
    positive_from z low some =
        ⊎_elim (λ same. absurd (some (ap unsigned_abs same))) (λ apart. omega (arith, ints))
        (same_or_apart_z z (pos 0))

abbrev inverse_by : (x : Rational) → (x.top ≡ pos 0) ⊎ (x.top ≢ pos 0) → Rational
inverse_by x (inl none) = whole (pos 0)
inverse_by x (inr apart) = over (x.bottom *ℤ x.top) (x.top *ℤ x.top) (square_positive x.top apart)

cross_one : (t b i k p r : ℤ) → i *ℤ (t *ℤ t) ≡ (b *ℤ t) *ℤ k → p *ℤ (b *ℤ k) ≡ (t *ℤ i) *ℤ r →
    unsigned_abs (b *ℤ k *ℤ t) ≢ 0 → p ≡ r
cross_one t b i k p r inverse product some =
    mul_cancel_right_z p r (b *ℤ k *ℤ t)
    (by_ring (p ∷ b ∷ k ∷ t ∷ []) (search ring depth 40) refl
    ∙ ap (λ z. z *ℤ t) product
    ∙ by_ring (t ∷ i ∷ r ∷ []) (search ring depth 40) refl
    ∙ ap (λ z. r *ℤ z) inverse
    ∙ by_ring (r ∷ b ∷ t ∷ k ∷ []) (search ring depth 40) refl)
    some

zero_of : (x : Rational) → x.top ≡ pos 0 → x ≡ whole (pos 0)
unfolding whole
zero_of x none = equal_q x (whole (pos 0)) (ap (λ z. z *ℤ pos 1) none ∙ omega (arith, ints))

one_of : (x : Rational) → x.top ≡ x.bottom → x ≡ whole (pos 1)
unfolding whole
one_of x same = equal_q x (whole (pos 1)) (ap (λ z. z *ℤ pos 1) same ∙ omega (arith, ints))

inverse_law : (x : Rational) (d : (x.top ≡ pos 0) ⊎ (x.top ≢ pos 0)) → x ≢ whole (pos 0) →
    x *ℚ inverse_by x d ≡ whole (pos 1)
unfolding over
inverse_law x (inl none) some = absurd (some (zero_of x none))
inverse_law x (inr apart) some =
    let i = inverse_by x (inr apart) in
    let p = x *ℚ i in
    let t_some : unsigned_abs x.top ≢ 0 = λ h. apart (abs_zero_z x.top h) in
    one_of p
    (cross_one x.top x.bottom i.top i.bottom p.top p.bottom
    (reduced (x.bottom *ℤ x.top) (x.top *ℤ x.top) (square_positive x.top apart)).1
    (product_is x i)
    (mul_some_z (x.bottom *ℤ i.bottom) x.top
    (mul_some_z x.bottom i.bottom (positive_some_z x.bottom x.reduced.positive)
    (positive_some_z i.bottom i.reduced.positive))
    t_some))

pub inverse_q : Rational → Rational
inverse_q x = inverse_by x (same_or_apart_z x.top (pos 0))

pub inverse_is : (x : Rational) → x ≢ whole (pos 0) → x *ℚ inverse_q x ≡ whole (pos 1)
unfolding inverse_q
inverse_is x some = inverse_law x (same_or_apart_z x.top (pos 0)) some

abbrev pub rationals : OrderedField Rational
rationals = record {
  zero = whole (pos 0);
  one = whole (pos 1);
  plus = λ x y. x +ℚ y;
  negative = neg_ℚ;
  times = λ x y. x *ℚ y;
  inverse = inverse_q;
  at_most = at_most_q;
  plus_associates = add_assoc_q;
  plus_commutes = add_comm_q;
  plus_zero = add_zero_q;
  plus_negative = add_neg_q;
  times_associates = mul_assoc_q;
  times_commutes = mul_comm_q;
  times_one = mul_one_q;
  times_plus = mul_add_q;
  times_inverse = inverse_is;
  different = λ same. not_one (whole_injective (pos 1) (pos 0) same);
  total = λ x y. ⊎_elim (λ h. inl (yes_le _ _ h)) (λ h. inr (yes_le _ _ h))
      (either_way (x.top *ℤ y.bottom) (y.top *ℤ x.bottom));
  antisymmetric = λ x y h k. equal_q x y (both _ _ (le_yes _ _ h) (le_yes _ _ k));
  transitive = λ x y z h k. most_is x z (at_most_trans x y z (most_from x y h) (most_from y z k));
  plus_keeps = λ x y z h. most_is _ _ (plus_keeps_q x y z (most_from x y h));
  times_keeps = λ x y h k. most_is _ _ (times_keeps_q x y (most_from _ _ h) (most_from _ _ k));
}
  where
    not_one : pos 1 ≡ pos 0 → ⊥
    not_one h = absurd (omega (arith, ints))

-- ---- floors

abbrev floor_q : Rational → ℤ
floor_q x = int_div_euclid x.top x.bottom

floor_spec : (t b : ℤ) → pos 0 <ℤ b → ((int_div_euclid t b *ℤ b) ≤ℤ t)
    × (t <ℤ (int_div_euclid t b *ℤ b +ℤ b))
floor_spec t (negsuc b) some = absurd (omega (arith, ints))
floor_spec (pos n) (pos b) some =
    let parts = div-add-mod' n b in
    let positive : 0 < b = omega (arith, ints) in
    let low = mod-lt n positive in
    (omega (arith, ints), omega (arith, ints))
floor_spec (negsuc n) (pos b) some =
    let parts = div-add-mod' n b in
    let positive : 0 < b = omega (arith, ints) in
    let low = mod-lt n positive in
    let product : suc (n / b) * b ≡ n / b * b + b = omega arith in
    (omega (arith, ints), omega (arith, ints))

number_is : (n : ℕ) → number rationals n ≡ whole (pos n)
number_is zero = refl
number_is (suc n) =
    ap (λ x. x +ℚ whole (pos 1)) (number_is n) ∙ sym (whole_add (pos n) (pos 1))
    ∙ ap whole (omega (arith, ints))

whole_is : (z : ℤ) → f.whole rationals z ≡ whole z
whole_is (pos n) = number_is n
whole_is (negsuc n) =
    ap neg_ℚ (number_is (suc n)) ∙ sym (whole_neg (pos (suc n))) ∙ ap whole (omega (arith, ints))

floor_low : (x : Rational) → whole (floor_q x) ≤ℚ x
unfolding whole
floor_low x =
    let low = (floor_spec x.top x.bottom x.reduced.positive).0 in
    record { crosswise = omega (arith, ints) }

floor_high : (x : Rational) → whole (floor_q x +ℤ pos 1) ≤ℚ x → ⊥
unfolding whole
floor_high x h =
    let z = floor_q x in
    let high = (floor_spec x.top x.bottom x.reduced.positive).1 in
    let most : ((z +ℤ pos 1) *ℤ x.bottom) ≤ℤ (x.top *ℤ pos 1) = h.crosswise in
    let next : (z +ℤ pos 1) *ℤ x.bottom ≡ z *ℤ x.bottom +ℤ x.bottom =
    by_ring (z ∷ x.bottom ∷ []) (search ring depth 20) refl in
    absurd (omega (arith, ints))

pub rational_floors : HasFloor rationals
rational_floors = record {
  floor = floor_q;
  low = λ x. most_is _ _ (subst (λ y. y ≤ℚ x) (sym (whole_is (floor_q x))) (floor_low x));
  high = λ x h. floor_high x (subst (λ y. y ≤ℚ x)
      (ap (λ y. y +ℚ whole (pos 1)) (whole_is (floor_q x)) ∙ sym (whole_add (floor_q x) (pos 1)))
      (most_from _ _ h));
}
