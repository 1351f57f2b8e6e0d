-- The mixed-integer cut meets the rules, and lies under its two lines through each whole number.
use Rattle.std.proofs.Common.{◌≡◌, ◌≢◌, ℤ, pos, neg_ℤ, ◌+ℤ◌, ◌≤ℤ◌, true, false, ◌⊎◌, inl, inr, ⊎_elim, [], ◌∷◌, refl, sym, subst, subst₂, ap, ap₂, ◌∙◌, arith}
use Rattle.std.proofs.lemmas.Int.{ints, by_lt_z}
use Rattle.gj_fields.specs.Fields.{OrderedField, HasFloor, AtMost, whole}
use Rattle.gj_fields.specs.Functions.{HasRules}
use Rattle.gj_real_cuts.specs.Gmic.{part_of, gmic_at, gmic}
use Rattle.gj_fields.proofs.Ring.{ring}
use Rattle.gj_fields.proofs.Ring.Term.{var, nil, unit, neg, ◌⊕◌, ◌⊗◌}
use Rattle.gj_fields.proofs.Order.{either, le_refl, le_of_eq, le_of_not, times_le, by_one, by_two, by_three, zero_le_one}
use Rattle.gj_fields.proofs.Wholes.{whole_plus, whole_mono}
use Rattle.gj_fields.proofs.Floors.{floor_is}
use Rattle.gj_fields.specs.MixedCuts.{HasSlopesAtZero}
use Rattle.gj_reals.proofs.AtReals.{inverse_low}
use Rattle.gj_reals.proofs.Lift.{whole_negative}

module _ {R : Type 0} (K : OrderedField R) (floors : HasFloor K) (f : R)
    (f_some : AtMost K f K.zero → ⊥) (f_high : AtMost K K.one f → ⊥) where
  open K use {plus, times, zero as o, one as e, negative}

  v : R → R
  v = gmic K floors f

  -- the slopes
  abbrev u : R
  u = K.inverse f

  abbrev w : R
  w = K.inverse (plus e (negative f))

  f_low : AtMost K o f
  f_low = ⊎_elim (λ h. h) (λ h. absurd (f_some h)) (K.total o f)

  f_fits : AtMost K f e
  f_fits = ⊎_elim (λ h. h) (λ h. absurd (f_high h)) (K.total f e)

  g_low : AtMost K o (plus e (negative f))
  g_low = by_one K (f ∷ []) nil (unit ⊕ neg (var 0)) (var 0) unit f_fits refl

  f_apart : f ≢ o
  f_apart h = f_some (le_of_eq K f o h)

  g_apart : plus e (negative f) ≢ o
  g_apart h =
      f_high (by_one K (f ∷ []) unit (var 0) (unit ⊕ neg (var 0)) nil (le_of_eq K _ _ h) refl)

  u_is : times f u ≡ e
  u_is = K.times_inverse f f_apart

  w_is : times (plus e (negative f)) w ≡ e
  w_is = K.times_inverse (plus e (negative f)) g_apart

  u_low : AtMost K o u
  u_low = inverse_low K f f_low f_apart

  w_low : AtMost K o w
  w_low = inverse_low K (plus e (negative f)) g_low g_apart

  -- ---- at a fractional part

  at_rise : (r : R) → K.at_most r f ≡ true → gmic_at K f r ≡ times r u
  at_rise r h =
      ap (λ b. elim b as (λ _. R) [ true ↦ times r u | false ↦ times (plus e (negative r)) w ]) h

  at_fall : (r : R) → K.at_most r f ≡ false → gmic_at K f r ≡ times (plus e (negative r)) w
  at_fall r h =
      ap (λ b. elim b as (λ _. R) [ true ↦ times r u | false ↦ times (plus e (negative r)) w ]) h

  -- no value is above the rising line, nor above the falling one
  under_rise : (r : R) → AtMost K (gmic_at K f r) (times r u)
  under_rise r =
      ⊎_elim (λ h. le_of_eq K _ _ (at_rise r h))
      (λ h.
      let fall = times (plus e (negative r)) w in
      subst (λ x. AtMost K x (times r u)) (sym (at_fall r h))
      (by_three K (r ∷ f ∷ u ∷ w ∷ []) ((unit ⊕ neg (var 0)) ⊗ var 3) (var 0 ⊗ var 2)
      ((unit ⊕ neg (var 0)) ⊗ var 3) ((unit ⊕ neg (var 0)) ⊗ var 3 ⊗ (var 1 ⊗ var 2))
      (var 0 ⊗ var 2 ⊗ ((unit ⊕ neg (var 1)) ⊗ var 3)) (var 0 ⊗ var 2)
      nil ((var 0 ⊕ neg (var 1)) ⊗ (var 2 ⊗ var 3))
      (le_of_eq K _ _ (sym (ap (times fall) u_is ∙ K.times_one fall)))
      (le_of_eq K _ _ (ap (times (times r u)) w_is ∙ K.times_one (times r u)))
      (K.times_keeps (plus r (negative f)) (times u w)
      (by_one K (r ∷ f ∷ []) nil (var 0 ⊕ neg (var 1)) (var 1) (var 0) (le_of_not K r f h) refl)
      (K.times_keeps u w u_low w_low)) refl))
      (either (K.at_most r f))

  under_fall : (r : R) → AtMost K (gmic_at K f r) (times (plus e (negative r)) w)
  under_fall r =
      ⊎_elim
      (λ h.
      let fall = times (plus e (negative r)) w in
      subst (λ x. AtMost K x fall) (sym (at_rise r h))
      (by_three K (r ∷ f ∷ u ∷ w ∷ []) (var 0 ⊗ var 2) ((unit ⊕ neg (var 0)) ⊗ var 3)
      (var 0 ⊗ var 2) (var 0 ⊗ var 2 ⊗ ((unit ⊕ neg (var 1)) ⊗ var 3))
      ((unit ⊕ neg (var 0)) ⊗ var 3 ⊗ (var 1 ⊗ var 2)) ((unit ⊕ neg (var 0)) ⊗ var 3)
      nil ((var 1 ⊕ neg (var 0)) ⊗ (var 2 ⊗ var 3))
      (le_of_eq K _ _ (sym (ap (times (times r u)) w_is ∙ K.times_one (times r u))))
      (le_of_eq K _ _ (ap (times fall) u_is ∙ K.times_one fall))
      (K.times_keeps (plus f (negative r)) (times u w)
      (by_one K (r ∷ f ∷ []) nil (var 1 ⊕ neg (var 0)) (var 0) (var 1) h refl)
      (K.times_keeps u w u_low w_low)) refl))
      (λ h. le_of_eq K _ _ (at_fall r h))
      (either (K.at_most r f))

  -- ---- under the lines through a whole number

  next_most : (a b : ℤ) → (a +ℤ pos 1) ≤ℤ b → AtMost K (plus (whole K a) e) (whole K b)
  next_most a b h =
      subst (λ s. AtMost K s (whole K b))
      (whole_plus K a (pos 1) ∙ ring K (whole K a ∷ []) (var 0 ⊕ (nil ⊕ unit)) (var 0 ⊕ unit) refl)
      (whole_mono K (a +ℤ pos 1) b h)

  -- a whole number that is at most x is at most its floor, and one that is not is above it
  floor_above : (x : R) (z : ℤ) → AtMost K (whole K z) x → z ≤ℤ floors.floor x
  floor_above x z low =
      by_lt_z (floors.floor x) z
      (λ less. absurd (floors.high x (K.transitive _ (whole K z) _
      (next_most (floors.floor x) z (omega (arith, ints))) low)))
      (λ most. most)

  next_above : (x : R) (z : ℤ) → K.at_most (whole K z) x ≡ false → (floors.floor x +ℤ pos 1) ≤ℤ z
  next_above x z other =
      by_lt_z (floors.floor x) z (λ less. omega (arith, ints))
      (λ most. absurd (let same : true ≡ false =
      sym (K.transitive _ _ _ (whole_mono K z (floors.floor x) most) (floors.low x)) ∙ other in cc))

  -- t to the right of it
  under_right : (x t : R) (z : ℤ) → x ≡ plus (whole K z) t → AtMost K o t →
      AtMost K (v x) (times t u)
  unfolding v
  under_right x t z is low =
      let n = floors.floor x in
      let there : AtMost K (whole K z) x =
      by_two K (whole K z ∷ t ∷ x ∷ []) (var 0) (var 2) nil (var 1) (var 0 ⊕ var 1) (var 2) low
      (le_of_eq K _ _ (sym is)) refl in
      K.transitive _ _ _ (under_rise (part_of K floors x))
      (times_le K (part_of K floors x) t u u_low
      (by_two K (whole K z ∷ whole K n ∷ t ∷ x ∷ []) (var 3 ⊕ neg (var 1)) (var 2) (var 0) (var 1)
      (var 3) (var 0 ⊕ var 2) (whole_mono K z n (floor_above x z there))
      (le_of_eq K _ _ is) refl))

  -- t to the left of it
  under_left : (x t : R) (z : ℤ) → x ≡ plus (whole K z) t → AtMost K t o →
      AtMost K (v x) (times (negative t) w)
  unfolding v
  under_left x t z is high =
      let n = floors.floor x in
      ⊎_elim
      (λ h.
      let low : AtMost K o t =
      by_two K (whole K z ∷ t ∷ x ∷ []) nil (var 1) (var 0) (var 2) (var 2) (var 0 ⊕ var 1) h
      (le_of_eq K _ _ is) refl in
      let none : t ≡ o = K.antisymmetric t o high low in
      subst (AtMost K (v x))
      (ap (λ s. times s u) none ∙ ring K (u ∷ w ∷ []) (nil ⊗ var 0) (neg nil ⊗ var 1) refl
      ∙ ap (λ s. times (negative s) w) (sym none))
      (under_right x t z is low))
      (λ h.
      K.transitive _ _ _ (under_fall (part_of K floors x))
      (times_le K (plus e (negative (part_of K floors x))) (negative t) w w_low
      (by_two K (whole K z ∷ whole K n ∷ t ∷ x ∷ []) (unit ⊕ neg (var 3 ⊕ neg (var 1)))
      (neg (var 2)) (var 1 ⊕ unit) (var 0) (var 0 ⊕ var 2) (var 3)
      (next_most n z (next_above x z h))
      (le_of_eq K _ _ (sym is)) refl)))
      (either (K.at_most (whole K z) x))

  -- ---- each number lies on one of the lines

  record Rises (x : R) : Type 0 where
    z : ℤ
    t : R
    is : x ≡ plus (whole K z) t
    low : AtMost K o t
    high : AtMost K t f
    value : v x ≡ times t u

  record Falls (x : R) : Type 0 where
    z : ℤ
    t : R
    is : x ≡ plus (whole K z) t
    low : AtMost K f (plus t e)
    high : AtMost K t o
    value : v x ≡ times (negative t) w

  on_line : (x : R) → Rises x ⊎ Falls x
  unfolding v
  on_line x =
      let n = floors.floor x in
      let r = part_of K floors x in
      ⊎_elim
      (λ h. inl (record {
        z = n;
        t = r;
        is = ring K (x ∷ whole K n ∷ []) (var 0) (var 1 ⊕ (var 0 ⊕ neg (var 1))) refl;
        low = by_one K (x ∷ whole K n ∷ []) nil (var 0 ⊕ neg (var 1)) (var 1) (var 0)
            (floors.low x) refl;
        high = h;
        value = at_rise r h;
      }))
      (λ h. inr (record {
        z = n +ℤ pos 1;
        t = plus r (negative e);
        is =
            ring K (x ∷ whole K n ∷ []) (var 0)
            (var 1 ⊕ (nil ⊕ unit) ⊕ (var 0 ⊕ neg (var 1) ⊕ neg unit)) refl
            ∙ ap (λ s. plus s (plus r (negative e))) (sym (whole_plus K n (pos 1)));
        low = subst (AtMost K f) (ring K (r ∷ []) (var 0) (var 0 ⊕ neg unit ⊕ unit) refl)
            (le_of_not K r f h);
        high =
            ⊎_elim (λ k. absurd (floors.high x k))
            (λ k. by_one K (x ∷ whole K n ∷ []) (var 0 ⊕ neg (var 1) ⊕ neg unit) nil (var 0)
            (var 1 ⊕ unit) k refl)
            (K.total (plus (whole K n) e) x);
        value =
            at_fall r h
            ∙ ap (λ s. times s w)
            (ring K (r ∷ []) (unit ⊕ neg (var 0)) (neg (var 0 ⊕ neg unit)) refl);
      }))
      (either (K.at_most r f))

  -- ---- the rules

  nonnegative : (x : R) → AtMost K o (v x)
  nonnegative x =
      ⊎_elim
      (λ p. subst (AtMost K o) (sym p.value) (K.times_keeps p.t u p.low u_low))
      (λ p. subst (AtMost K o) (sym p.value) (K.times_keeps (negative p.t) w
      (by_one K (p.t ∷ []) nil (neg (var 0)) (var 0) nil p.high refl) w_low))
      (on_line x)

  -- a whole number further the value is no greater
  shifted : (x y : R) (k : ℤ) → y ≡ plus x (whole K k) → AtMost K (v y) (v x)
  shifted x y k is =
      let moved = λ (z : ℤ) (t : R) (there : x ≡ plus (whole K z) t).
      is ∙ ap (λ s. plus s (whole K k)) there
      ∙ ring K (whole K z ∷ t ∷ whole K k ∷ []) (var 0 ⊕ var 1 ⊕ var 2) (var 0 ⊕ var 2 ⊕ var 1)
      refl
      ∙ ap (λ s. plus s t) (sym (whole_plus K z k)) in
      ⊎_elim
      (λ p. subst (AtMost K (v y)) (sym p.value)
      (under_right y p.t (p.z +ℤ k) (moved p.z p.t p.is) p.low))
      (λ p. subst (AtMost K (v y)) (sym p.value)
      (under_left y p.t (p.z +ℤ k) (moved p.z p.t p.is) p.high))
      (on_line x)

  has_period : (x : R) → v (plus x e) ≡ v x
  has_period x =
      K.antisymmetric _ _
      (shifted x (plus x e) (pos 1)
      (ring K (x ∷ []) (var 0 ⊕ unit) (var 0 ⊕ (nil ⊕ unit)) refl))
      (shifted (plus x e) x (neg_ℤ (pos 1))
      (ring K (x ∷ []) (var 0) (var 0 ⊕ unit ⊕ neg (nil ⊕ unit)) refl
      ∙ ap (plus (plus x e)) (sym (whole_negative K (pos 1)))))

  zero_at_zero : v o ≡ o
  zero_at_zero =
      K.antisymmetric (v o) o
      (subst (AtMost K (v o)) (ring K (u ∷ []) (nil ⊗ var 0) nil refl)
      (under_right o o (pos 0) (ring K [] nil (nil ⊕ nil) refl) (le_refl K o)))
      (nonnegative o)

  sum_is : (x y : R) (z k : ℤ) (s t : R) → x ≡ plus (whole K z) s → y ≡ plus (whole K k) t →
      plus x y ≡ plus (whole K (z +ℤ k)) (plus s t)
  sum_is x y z k s t h i =
      ap₂ plus h i
      ∙ ring K (whole K z ∷ s ∷ whole K k ∷ t ∷ []) (var 0 ⊕ var 1 ⊕ (var 2 ⊕ var 3))
      (var 0 ⊕ var 2 ⊕ (var 1 ⊕ var 3)) refl
      ∙ ap (λ a. plus a (plus s t)) (sym (whole_plus K z k))

  -- the sum of a number on a rising line and one on a falling line
  rise_and_fall : (x y : R) → Rises x → Falls y → AtMost K (v (plus x y)) (plus (v x) (v y))
  rise_and_fall x y p r =
      let s = plus p.t r.t in
      let is = sum_is x y p.z r.z p.t r.t p.is r.is in
      let env = p.t ∷ r.t ∷ u ∷ w ∷ [] in
      let rising = K.times_keeps p.t u p.low u_low in
      let falling = K.times_keeps (negative r.t) w
      (by_one K (r.t ∷ []) nil (neg (var 0)) (var 0) nil r.high refl) w_low in
      subst₂ (λ a b. AtMost K (v (plus x y)) (plus a b)) (sym p.value) (sym r.value)
      (⊎_elim
      (λ h. K.transitive _ _ _ (under_right (plus x y) s (p.z +ℤ r.z) is h)
      (by_two K env ((var 0 ⊕ var 1) ⊗ var 2) (var 0 ⊗ var 2 ⊕ neg (var 1) ⊗ var 3)
      (var 1 ⊗ var 2) (nil ⊗ var 2) nil (neg (var 1) ⊗ var 3)
      (times_le K r.t o u u_low r.high) falling refl))
      (λ h. K.transitive _ _ _ (under_left (plus x y) s (p.z +ℤ r.z) is h)
      (by_two K env (neg (var 0 ⊕ var 1) ⊗ var 3) (var 0 ⊗ var 2 ⊕ neg (var 1) ⊗ var 3)
      nil (var 0 ⊗ var 2) nil (var 0 ⊗ var 3) rising (K.times_keeps p.t w p.low w_low) refl))
      (K.total o s))

  subadditive : (x y : R) → AtMost K (v (plus x y)) (plus (v x) (v y))
  subadditive x y =
      ⊎_elim
      (λ p. ⊎_elim
      (λ r. subst₂ (λ a b. AtMost K (v (plus x y)) (plus a b)) (sym p.value) (sym r.value)
      (subst (AtMost K (v (plus x y)))
      (ring K (p.t ∷ r.t ∷ u ∷ []) ((var 0 ⊕ var 1) ⊗ var 2) (var 0 ⊗ var 2 ⊕ var 1 ⊗ var 2) refl)
      (under_right (plus x y) (plus p.t r.t) (p.z +ℤ r.z) (sum_is x y p.z r.z p.t r.t p.is r.is)
      (by_two K (p.t ∷ r.t ∷ []) nil (var 0 ⊕ var 1) nil (var 0) nil (var 1) p.low r.low refl))))
      (λ r. rise_and_fall x y p r)
      (on_line y))
      (λ p. ⊎_elim
      (λ r. subst₂ (AtMost K) (ap v (K.plus_commutes y x)) (K.plus_commutes (v y) (v x))
      (rise_and_fall y x r p))
      (λ r. subst₂ (λ a b. AtMost K (v (plus x y)) (plus a b)) (sym p.value) (sym r.value)
      (subst (AtMost K (v (plus x y)))
      (ring K (p.t ∷ r.t ∷ w ∷ []) (neg (var 0 ⊕ var 1) ⊗ var 2)
      (neg (var 0) ⊗ var 2 ⊕ neg (var 1) ⊗ var 2) refl)
      (under_left (plus x y) (plus p.t r.t) (p.z +ℤ r.z) (sum_is x y p.z r.z p.t r.t p.is r.is)
      (by_two K (p.t ∷ r.t ∷ []) (var 0 ⊕ var 1) nil (var 0) nil (var 1) nil p.high r.high refl))))
      (on_line y))
      (on_line x)

  one_at_f : v f ≡ e
  unfolding v
  one_at_f =
      let none : floors.floor f ≡ pos 0 =
      floor_is K floors f (pos 0) f_low
      (λ h. f_high (subst (λ s. AtMost K s f) (ring K [] (nil ⊕ unit) unit refl) h)) in
      ap (λ (z : ℤ). gmic_at K f (plus f (negative (whole K z)))) none
      ∙ ap (gmic_at K f) (ring K (f ∷ []) (var 0 ⊕ neg nil) (var 0) refl)
      ∙ at_rise f (le_refl K f) ∙ u_is

  opposite_at_most : (x : R) → AtMost K (plus (v x) (v (plus f (negative x)))) e
  opposite_at_most x =
      let y = plus f (negative x) in
      ⊎_elim
      (λ p.
      let is : y ≡ plus (whole K (neg_ℤ p.z)) (plus f (negative p.t)) =
      ap (λ s. plus f (negative s)) p.is
      ∙ ring K (f ∷ whole K p.z ∷ p.t ∷ []) (var 0 ⊕ neg (var 1 ⊕ var 2))
      (neg (var 1) ⊕ (var 0 ⊕ neg (var 2))) refl
      ∙ ap (λ s. plus s (plus f (negative p.t))) (sym (whole_negative K p.z)) in
      by_three K (v x ∷ v y ∷ f ∷ p.t ∷ u ∷ []) (var 0 ⊕ var 1) unit (var 0) (var 3 ⊗ var 4) (var 1)
      ((var 2 ⊕ neg (var 3)) ⊗ var 4) (var 2 ⊗ var 4) unit
      (le_of_eq K _ _ p.value)
      (under_right y (plus f (negative p.t)) (neg_ℤ p.z) is
      (by_one K (f ∷ p.t ∷ []) nil (var 0 ⊕ neg (var 1)) (var 1) (var 0) p.high refl))
      (le_of_eq K _ _ u_is) refl)
      (λ p.
      let rest = plus (plus f (negative p.t)) (negative e) in
      let is : y ≡ plus (whole K (neg_ℤ p.z +ℤ pos 1)) rest =
      ap (λ s. plus f (negative s)) p.is
      ∙ ring K (f ∷ whole K p.z ∷ p.t ∷ []) (var 0 ⊕ neg (var 1 ⊕ var 2))
      (neg (var 1) ⊕ (nil ⊕ unit) ⊕ (var 0 ⊕ neg (var 2) ⊕ neg unit)) refl
      ∙ ap (λ s. plus (plus s (plus o e)) rest) (sym (whole_negative K p.z))
      ∙ ap (λ s. plus s rest) (sym (whole_plus K (neg_ℤ p.z) (pos 1))) in
      by_three K (v x ∷ v y ∷ f ∷ p.t ∷ w ∷ []) (var 0 ⊕ var 1) unit (var 0) (neg (var 3) ⊗ var 4)
      (var 1) (neg (var 2 ⊕ neg (var 3) ⊕ neg unit) ⊗ var 4) ((unit ⊕ neg (var 2)) ⊗ var 4) unit
      (le_of_eq K _ _ p.value)
      (under_left y rest (neg_ℤ p.z +ℤ pos 1) is
      (by_one K (f ∷ p.t ∷ []) (var 0 ⊕ neg (var 1) ⊕ neg unit) nil (var 0) (var 1 ⊕ unit) p.low
      refl))
      (le_of_eq K _ _ w_is) refl)
      (on_line x)

  pub gmic_rules : HasRules K (gmic K floors f) f
  unfolding v
  gmic_rules = record {
    function = record { nonnegative = nonnegative; has_period = has_period };
    zero_at_zero = zero_at_zero;
    subadditive = subadditive;
    symmetric = λ x.
        let y = plus f (negative x) in
        K.antisymmetric _ _ (opposite_at_most x)
        (subst (λ s. AtMost K s (plus (v x) (v y)))
        (ap v (ring K (x ∷ f ∷ []) (var 0 ⊕ (var 1 ⊕ neg (var 0))) (var 1) refl) ∙ one_at_f)
        (subadditive x y));
  }

  -- ---- slopes at 0

  fits_both : (h : R) → AtMost K h (times f (plus e (negative f))) →
      AtMost K h f × AtMost K h (plus e (negative f))
  fits_both h fits = (
    by_two K (h ∷ f ∷ []) (var 0) (var 1) (var 0) (var 1 ⊗ (unit ⊕ neg (var 1))) nil (var 1 ⊗ var 1)
        fits (K.times_keeps f f f_low f_low) refl,
    by_two K (h ∷ f ∷ []) (var 0) (unit ⊕ neg (var 1)) (var 0) (var 1 ⊗ (unit ⊕ neg (var 1)))
        nil ((unit ⊕ neg (var 1)) ⊗ (unit ⊕ neg (var 1)))
        fits (K.times_keeps _ _ g_low g_low) refl,
  )

  -- the value at h is at least h/f, since that at f - h is at most (f - h)/f
  rises_at_least : (h : R) → AtMost K h f → AtMost K (times u h) (v h)
  unfolding v
  rises_at_least h fits =
      let y = plus f (negative h) in
      by_three K (v h ∷ v y ∷ f ∷ h ∷ u ∷ []) (var 4 ⊗ var 3) (var 0)
      (var 1) ((var 2 ⊕ neg (var 3)) ⊗ var 4) (var 2 ⊗ var 4) unit unit (var 0 ⊕ var 1)
      (under_right y y (pos 0) (ring K (y ∷ []) (var 0) (nil ⊕ var 0) refl)
      (by_one K (f ∷ h ∷ []) nil (var 0 ⊕ neg (var 1)) (var 1) (var 0) fits refl))
      (le_of_eq K _ _ u_is) (le_of_eq K _ _ (sym (gmic_rules.symmetric h))) refl

  falls_at_least : (h : R) → AtMost K h (plus e (negative f)) →
      AtMost K (times w h) (v (negative h))
  unfolding v
  falls_at_least h fits =
      let y = plus f (negative (negative h)) in
      let t = plus y (negative e) in
      by_three K (v (negative h) ∷ v y ∷ f ∷ h ∷ w ∷ []) (var 4 ⊗ var 3) (var 0)
      (var 1) (neg (var 2 ⊕ neg (neg (var 3)) ⊕ neg unit) ⊗ var 4) ((unit ⊕ neg (var 2)) ⊗ var 4)
      unit unit (var 0 ⊕ var 1)
      (under_left y t (pos 1) (ring K (y ∷ []) (var 0) (nil ⊕ unit ⊕ (var 0 ⊕ neg unit)) refl)
      (by_one K (f ∷ h ∷ []) (var 0 ⊕ neg (neg (var 1)) ⊕ neg unit) nil (var 1)
      (unit ⊕ neg (var 0)) fits refl))
      (le_of_eq K _ _ w_is) (le_of_eq K _ _ (sym (gmic_rules.symmetric (negative h)))) refl

  pub gmic_slopes : HasSlopesAtZero K (gmic K floors f) (K.inverse f)
      (K.inverse (plus e (negative f)))
  unfolding v
  gmic_slopes = record {
    near = times f (plus e (negative f));
    positive = λ none.
        K.different (K.antisymmetric e o
        (subst₂ (AtMost K)
        (ring K (f ∷ plus e (negative f) ∷ u ∷ w ∷ []) (var 0 ⊗ var 1 ⊗ (var 2 ⊗ var 3))
        (var 0 ⊗ var 2 ⊗ (var 1 ⊗ var 3)) refl ∙ ap₂ times u_is w_is ∙ K.times_one e)
        (ring K (u ∷ w ∷ []) (nil ⊗ (var 0 ⊗ var 1)) nil refl)
        (times_le K _ o (times u w) (K.times_keeps u w u_low w_low) none))
        (zero_le_one K));
    rises = λ h low fits.
        K.antisymmetric _ _
        (subst (AtMost K (v h)) (K.times_commutes h u)
        (under_right h h (pos 0) (ring K (h ∷ []) (var 0) (nil ⊕ var 0) refl) low))
        (rises_at_least h (fits_both h fits).0);
    falls = λ h low fits.
        K.antisymmetric _ _
        (subst (AtMost K (v (negative h)))
        (ring K (h ∷ w ∷ []) (neg (neg (var 0)) ⊗ var 1) (var 1 ⊗ var 0) refl)
        (under_left (negative h) (negative h) (pos 0)
        (ring K (h ∷ []) (neg (var 0)) (nil ⊕ neg (var 0)) refl)
        (by_one K (h ∷ []) (neg (var 0)) nil nil (var 0) low refl)))
        (falls_at_least h (fits_both h fits).1);
  }
