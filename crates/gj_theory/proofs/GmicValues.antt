-- The closed form of the mixed-integer cut on grids.
use Rattle.std.proofs.Common.{◌≡◌, ◌≢◌, ℕ, ◌-◌, ◌*◌, ◌%◌, ◌<◌, ◌≤◌, ⊎_elim, ℤ, pos, ◌+ℤ◌, ◌-ℤ◌, ◌*ℤ◌, ◌<ℤ◌, ◌≤ℤ◌, [], ◌∷◌, unsigned_abs, refl, sym, ap, subst, subst₂, ◌∙◌, arith}
use Rattle.std.specs.Int.{int_div_euclid}
use Rattle.std.proofs.Math.Nat.{mod-lt, mod-eq_of_lt, mul_comm, zero-mul}
use Rattle.std.proofs.lemmas.Bool.{cases_lt}
use Rattle.std.proofs.lemmas.Int.{ints, unsigned_abs-mul}
use Rattle.gj_frac.specs.declared.Frac.{Frac}
use Rattle.gj_frac.specs.Floor.{IsFloor}
use Rattle.gj_frac.specs.Fraction.{IsRatio}
use Rattle.gj_frac.proofs.Floors.{quotient_is_floor}
use Rattle.gj_lemmas.proofs.Integers.{mul_cancel_right_z, sub_mul_z, swap_last_z, mul_le_mul_right_z, mul_lt_mul_right_z, mul_le_cancel_right_z, mul_lt_cancel_right_z, mul_some_z, pos_abs_z, positive_some_z, add_mul_z}
use Rattle.gj_lemmas.proofs.Ratios.{ratio_along, ratio_less}
use Rattle.gj_lemmas.proofs.Ring.{by_ring, ring}
use Rattle.gj_shape.specs.Gmic.{gmic_table, gmic_scale}
use Rattle.gj_shape.specs.Values.{IsCongruent}
use Rattle.gj_shape.proofs.ValueLemmas.{congruent_rests}
use Rattle.gj_theory.specs.Cuts.{IsGmicValue}
use Rattle.gj_theory.proofs.GmicTable.{entry_rising, entry_falling}

-- ---- the place within the period

-- the floor of a/n leaves a place from 0 to below n
within_period : (num den a n w : ℤ) → pos 0 <ℤ den → pos 0 <ℤ n → num *ℤ n ≡ a *ℤ den →
    (w *ℤ den) ≤ℤ num →
    num <ℤ ((w +ℤ pos 1) *ℤ den) → ((w *ℤ n) ≤ℤ a) × (a <ℤ (w *ℤ n +ℤ n))
within_period num den a n w den_some n_some is low high =
    let low_n = mul_le_mul_right_z (w *ℤ den) num n (omega (arith, ints)) low in
    let high_n = mul_lt_mul_right_z num ((w +ℤ pos 1) *ℤ den) n n_some high in
    let low_swapped = swap_last_z w den n in
    let high_swapped = swap_last_z (w +ℤ pos 1) den n in
    let split = add_mul_z w (pos 1) n in
    let first : ((w *ℤ n) *ℤ den) ≤ℤ (a *ℤ den) = omega (arith, ints) in
    let second : (a *ℤ den) <ℤ (((w +ℤ pos 1) *ℤ n) *ℤ den) = omega (arith, ints) in
    let lower = mul_le_cancel_right_z (w *ℤ n) a den den_some first in
    let upper = mul_lt_cancel_right_z a ((w +ℤ pos 1) *ℤ n) den den_some second in
    (lower, omega (arith, ints))

-- what is left is the rest of each index at the place
rest_of_place : (i n : ℕ) (a w : ℤ) → 0 < n → IsCongruent (pos i) a n → (w *ℤ pos n) ≤ℤ a →
    a <ℤ (w *ℤ pos n +ℤ pos n) →
    a -ℤ w *ℤ pos n ≡ pos (i % n)
rest_of_place i n a w some (j, e) low high =
    let r = unsigned_abs (a -ℤ w *ℤ pos n) in
    let r_is : pos r ≡ a -ℤ w *ℤ pos n = pos_abs_z (a -ℤ w *ℤ pos n) (omega (arith, ints)) in
    let below : r < n = omega (arith, ints) in
    let joined = add_mul_z j w (pos n) in
    let rests : i % n ≡ r % n = congruent_rests i r n (j +ℤ w, omega (arith, ints)) in
    sym r_is ∙ ap pos (sym (mod-eq_of_lt below) ∙ sym rests)

rest_times : (num w den n a : ℤ) → num *ℤ n ≡ a *ℤ den →
    (num -ℤ w *ℤ den) *ℤ n ≡ (a -ℤ w *ℤ n) *ℤ den
rest_times num w den n a e =
    let first = sub_mul_z num (w *ℤ den) n in
    let second = sub_mul_z a (w *ℤ n) den in
    let swapped = swap_last_z w den n in
    omega (arith, ints)

-- so what the floor of x leaves is r/n
rest_is_ratio : (x : Frac) (n i : ℕ) (a w : ℤ) → 0 < n → IsRatio x a (pos n) →
    IsCongruent (pos i) a n → IsFloor x w →
    (x.num -ℤ w *ℤ x.den) *ℤ pos n ≡ pos (i % n) *ℤ x.den
rest_is_ratio x n i a w some is congruent floor =
    let bounds = within_period x.num x.den a (pos n) w x.lowest.positive
    (omega (arith, ints)) is floor.at_most floor.next_above in
    rest_times x.num w x.den (pos n) a is
    ∙ ap (λ z. z *ℤ x.den) (rest_of_place i n a w some congruent bounds.0 bounds.1)

-- ---- the two quotients

quotient_out : (p q k l n : ℤ) → ((p *ℤ q) *ℤ (k *ℤ l)) *ℤ n ≡ (p *ℤ n) *ℤ (q *ℤ k *ℤ l)
quotient_out p q k l n = by_ring (p ∷ q ∷ k ∷ l ∷ n ∷ []) (search ring depth 40) refl

quotient_in : (r d q k l : ℤ) → (r *ℤ d) *ℤ (q *ℤ k *ℤ l) ≡ (l *ℤ r *ℤ d) *ℤ (k *ℤ q)
quotient_in r d q k l = by_ring (r ∷ d ∷ q ∷ k ∷ l ∷ []) (search ring depth 40) refl

quotient_back : (r d f l n : ℤ) → (l *ℤ r *ℤ d) *ℤ (f *ℤ n) ≡ ((l *ℤ r) *ℤ (d *ℤ f)) *ℤ n
quotient_back r d f l n = by_ring (r ∷ d ∷ f ∷ l ∷ n ∷ []) (search ring depth 40) refl

-- r/n divided by k/n is l r/(k l)
quotient_over : (p d f q r k l n : ℤ) → unsigned_abs n ≢ 0 → p *ℤ n ≡ r *ℤ d → f *ℤ n ≡ k *ℤ q →
    (p *ℤ q) *ℤ (k *ℤ l) ≡ (l *ℤ r) *ℤ (d *ℤ f)
quotient_over p d f q r k l n some e h =
    mul_cancel_right_z _ _ n
    (quotient_out p q k l n ∙ ap (λ z. z *ℤ (q *ℤ k *ℤ l)) e ∙ quotient_in r d q k l
    ∙ ap (λ z. (l *ℤ r *ℤ d) *ℤ z) (sym h) ∙ quotient_back r d f l n) some

-- a value that is the quotient of r/n by k/n
value_over : (y : Frac) (p d f q r k l n : ℤ) → unsigned_abs n ≢ 0 → unsigned_abs d ≢ 0 →
    unsigned_abs f ≢ 0 →
    p *ℤ n ≡ r *ℤ d → f *ℤ n ≡ k *ℤ q → y.num *ℤ (d *ℤ f) ≡ (p *ℤ q) *ℤ y.den →
    IsRatio y (l *ℤ r) (k *ℤ l)
value_over y p d f q r k l n n_some d_some f_some e h is =
    ratio_along y.num y.den (p *ℤ q) (d *ℤ f) (l *ℤ r) (k *ℤ l) (mul_some_z d f d_some f_some) is
    (quotient_over p d f q r k l n n_some e h)

one_minus_out : (p d n : ℤ) → (pos 1 *ℤ d -ℤ p *ℤ pos 1) *ℤ n ≡ n *ℤ d -ℤ p *ℤ n
one_minus_out p d n = by_ring (p ∷ d ∷ n ∷ []) (search ring depth 40) refl

one_minus_in : (d r n : ℤ) → n *ℤ d -ℤ r *ℤ d ≡ (n -ℤ r) *ℤ (pos 1 *ℤ d)
one_minus_in d r n = by_ring (d ∷ r ∷ n ∷ []) (search ring depth 40) refl

-- 1 minus r/n is (n - r)/n
one_minus_over : (p d : ℤ) (r n : ℕ) → r ≤ n → p *ℤ pos n ≡ pos r *ℤ d →
    (pos 1 *ℤ d -ℤ p *ℤ pos 1) *ℤ pos n ≡ pos (n - r) *ℤ (pos 1 *ℤ d)
one_minus_over p d r n h e =
    let left : pos n -ℤ pos r ≡ pos (n - r) = omega (arith, ints) in
    one_minus_out p d (pos n) ∙ ap (λ z. pos n *ℤ d -ℤ z) e ∙ one_minus_in d (pos r) (pos n)
    ∙ ap (λ z. z *ℤ (pos 1 *ℤ d)) left

-- a factor of a product that is not 0 is not 0
factor_some : (x n : ℤ) → unsigned_abs (x *ℤ n) ≢ 0 → unsigned_abs x ≢ 0
factor_some x n some none =
    some (unsigned_abs-mul x n ∙ ap (λ m. m * unsigned_abs n) none ∙ zero-mul (unsigned_abs n))

numerator_some : (x d : ℤ) (k n : ℕ) → 0 < k → unsigned_abs d ≢ 0 → x *ℤ pos n ≡ pos k *ℤ d →
    unsigned_abs x ≢ 0
numerator_some x d k n some d_some e =
    factor_some x (pos n)
    (λ none. mul_some_z (pos k) d (omega arith) d_some (ap unsigned_abs (sym e) ∙ none))

-- ---- the closed form

pub closed_form : (f x y : Frac) (n k i : ℕ) (a : ℤ) → 0 < k → k < n → IsRatio f (pos k) (pos n) →
    IsRatio x a (pos n) →
    IsCongruent (pos i) a n → IsGmicValue f x y →
    IsRatio y (pos (gmic_table n k i)) (pos (gmic_scale n k))
closed_form f x y n k i a k_some below f_is x_is congruent value =
    let w = int_div_euclid x.num x.den in
    let floor : IsFloor x w = quotient_is_floor x in
    let some : 0 < n = omega arith in
    let r = i % n in
    let p = x.num -ℤ w *ℤ x.den in
    let rest : p *ℤ pos n ≡ pos r *ℤ x.den = rest_is_ratio x n i a w some x_is congruent floor in
    let n_some : unsigned_abs (pos n) ≢ 0 = omega arith in
    let small = mod-lt i some in
    let less = ratio_less f.num f.den p x.den (pos k) (pos r)
    (pos n) f.lowest.positive x.lowest.positive (omega (arith, ints)) f_is rest in
    let x_some = positive_some_z x.den x.lowest.positive in
    let f_some = positive_some_z f.den f.lowest.positive in
    let one_x : unsigned_abs (pos 1 *ℤ x.den) ≢ 0 = mul_some_z (pos 1) x.den (omega arith) x_some in
    let one_f : unsigned_abs (pos 1 *ℤ f.den) ≢ 0 = mul_some_z (pos 1) f.den (omega arith) f_some in
    let scale : (n - k) * k ≡ gmic_scale n k = mul_comm (n - k) k in
    ⊎_elim
    (λ (high : k < r).
    let f_rest = one_minus_over f.num f.den k n (omega arith) f_is in
    subst₂ (λ g s. IsRatio y (pos g) (pos s)) (sym (entry_falling n k i high)) scale
    (value_over y (pos 1 *ℤ x.den -ℤ p *ℤ pos 1) (pos 1 *ℤ x.den) (pos 1 *ℤ f.den -ℤ f.num *ℤ pos 1)
    (pos 1 *ℤ f.den)
    (pos (n - r)) (pos (n - k)) (pos k) (pos n) n_some one_x
    (numerator_some (pos 1 *ℤ f.den -ℤ f.num *ℤ pos 1) (pos 1 *ℤ f.den) (n - k) n
    (omega arith) one_f f_rest)
    (one_minus_over p x.den r n (omega arith) rest) f_rest
    (value.falls w floor (less.1 (omega (arith, ints))))))
    (λ (low : r ≤ k).
    subst (λ (g : ℕ). IsRatio y (pos g) (pos (gmic_scale n k))) (sym (entry_rising n k i low))
    (value_over y p x.den f.num f.den (pos r) (pos k) (pos (n - k)) (pos n) n_some x_some
    (numerator_some f.num f.den k n k_some f_some f_is) rest f_is
    (value.rises w floor (λ above. let h = less.0 above in omega (arith, ints)))))
    (cases_lt k r)
