-- Fractions of whole numbers in a field: equality, order, products, sums and inverses.
use Rattle.std.proofs.Common.{◌≡◌, ◌≢◌, ℤ, pos, neg_ℤ, ◌+ℤ◌, ◌-ℤ◌, ◌*ℤ◌, ◌≤ℤ◌, [], ◌∷◌, refl, sym, subst₂, ap, ap₂, ◌∙◌}
use Rattle.gj_fields.specs.Fields.{OrderedField, AtMost, whole}
use Rattle.gj_fields.proofs.Ring.{ring, times_zero}
use Rattle.gj_fields.proofs.Ring.Term.{var, unit, neg, ◌⊕◌, ◌⊗◌}
use Rattle.gj_fields.proofs.Order.{times_le}
use Rattle.gj_fields.proofs.Wholes.{whole_plus, whole_order, whole_mono}
use Rattle.gj_reals.proofs.AtReals.{inverse_low, inverse_at}
use Rattle.gj_reals.proofs.Lift.{whole_negative, whole_times, whole_injective}

module _ {R : Type 0} (K : OrderedField R) where
  open K use {plus, times, zero as o, one as e, negative, inverse}

  pub whole_some : (z : ℤ) → z ≢ pos 0 → whole K z ≢ o
  whole_some z apart h = apart (whole_injective K z (pos 0) h)

  -- a factor that is not 0 may be left out
  pub cancel_factor : (x y z : R) → x ≢ o → times x y ≡ times x z → y ≡ z
  cancel_factor x y z some h =
      sym (inverse_at K x y some)
      ∙ ring K (x ∷ y ∷ inverse x ∷ []) (var 0 ⊗ (var 1 ⊗ var 2)) (var 0 ⊗ var 1 ⊗ var 2) refl
      ∙ ap (λ w. times w (inverse x)) h
      ∙ ring K (x ∷ z ∷ inverse x ∷ []) (var 0 ⊗ var 1 ⊗ var 2) (var 0 ⊗ (var 1 ⊗ var 2)) refl
      ∙ inverse_at K x z some

  -- a over b
  abbrev pub over : ℤ → ℤ → R
  over a b = times (whole K a) (inverse (whole K b))

  -- b times a over b is a
  pub over_times : (a b : ℤ) → b ≢ pos 0 → times (whole K b) (over a b) ≡ whole K a
  over_times a b some = inverse_at K (whole K b) (whole K a) (whole_some b some)

  -- a number is a over b if b times it is a
  pub is_over : (x : R) (a b : ℤ) → b ≢ pos 0 → times (whole K b) x ≡ whole K a → x ≡ over a b
  is_over x a b some h =
      cancel_factor (whole K b) x (over a b) (whole_some b some) (h ∙ sym (over_times a b some))

  -- equal cross products give one number
  pub over_same : (a b c d : ℤ) → b ≢ pos 0 → d ≢ pos 0 → a *ℤ d ≡ c *ℤ b → over a b ≡ over c d
  over_same a b c d b_some d_some h =
      is_over (over a b) c d d_some
      (cancel_factor (whole K b) _ _ (whole_some b b_some)
      (ring K (whole K b ∷ whole K d ∷ over a b ∷ []) (var 0 ⊗ (var 1 ⊗ var 2))
      (var 0 ⊗ var 2 ⊗ var 1) refl
      ∙ ap (λ w. times w (whole K d)) (over_times a b b_some)
      ∙ sym (whole_times K a d) ∙ ap (whole K) h ∙ whole_times K c b
      ∙ K.times_commutes (whole K c) (whole K b)))

  -- products of fractions
  pub over_product : (a b c d : ℤ) → b ≢ pos 0 → d ≢ pos 0 → (b *ℤ d) ≢ pos 0 →
      times (over a b) (over c d) ≡ over (a *ℤ c) (b *ℤ d)
  over_product a b c d b_some d_some some =
      is_over (times (over a b) (over c d)) (a *ℤ c) (b *ℤ d) some
      (ap (λ w. times w (times (over a b) (over c d))) (whole_times K b d)
      ∙ ring K (whole K b ∷ whole K d ∷ over a b ∷ over c d ∷ [])
      (var 0 ⊗ var 1 ⊗ (var 2 ⊗ var 3)) (var 0 ⊗ var 2 ⊗ (var 1 ⊗ var 3)) refl
      ∙ ap₂ times (over_times a b b_some) (over_times c d d_some) ∙ sym (whole_times K a c))

  -- the order of fractions is that of the cross products
  pub over_most : (a b c d : ℤ) → b ≢ pos 0 → d ≢ pos 0 → pos 0 ≤ℤ b → pos 0 ≤ℤ d →
      AtMost K (over a b) (over c d) → (a *ℤ d) ≤ℤ (c *ℤ b)
  over_most a b c d b_some d_some b_low d_low h =
      whole_order K (a *ℤ d) (c *ℤ b)
      (subst₂ (AtMost K)
      (ring K (over a b ∷ whole K b ∷ whole K d ∷ []) (var 0 ⊗ (var 1 ⊗ var 2))
      (var 1 ⊗ var 0 ⊗ var 2) refl
      ∙ ap (λ w. times w (whole K d)) (over_times a b b_some) ∙ sym (whole_times K a d))
      (ring K (over c d ∷ whole K b ∷ whole K d ∷ []) (var 0 ⊗ (var 1 ⊗ var 2))
      (var 2 ⊗ var 0 ⊗ var 1) refl
      ∙ ap (λ w. times w (whole K b)) (over_times c d d_some) ∙ sym (whole_times K c b))
      (times_le K (over a b) (over c d) (times (whole K b) (whole K d))
      (K.times_keeps (whole K b) (whole K d) (whole_mono K (pos 0) b b_low)
      (whole_mono K (pos 0) d d_low)) h))

  pub most_over : (a b c d : ℤ) → b ≢ pos 0 → d ≢ pos 0 → pos 0 ≤ℤ b → pos 0 ≤ℤ d →
      (a *ℤ d) ≤ℤ (c *ℤ b) → AtMost K (over a b) (over c d)
  most_over a b c d b_some d_some b_low d_low h =
      let B = whole K b in
      let D = whole K d in
      let low = λ (z : ℤ) (some : z ≢ pos 0) (z_low : pos 0 ≤ℤ z).
      inverse_low K (whole K z) (whole_mono K (pos 0) z z_low) (whole_some z some) in
      subst₂ (AtMost K)
      (ap (λ w. times w (times (inverse B) (inverse D))) (whole_times K a d)
      ∙ ring K (whole K a ∷ D ∷ inverse B ∷ inverse D ∷ []) (var 0 ⊗ var 1 ⊗ (var 2 ⊗ var 3))
      (var 0 ⊗ var 2 ⊗ (var 1 ⊗ var 3)) refl
      ∙ ap (times (over a b)) (K.times_inverse D (whole_some d d_some)) ∙ K.times_one (over a b))
      (ap (λ w. times w (times (inverse B) (inverse D))) (whole_times K c b)
      ∙ ring K (whole K c ∷ B ∷ inverse B ∷ inverse D ∷ []) (var 0 ⊗ var 1 ⊗ (var 2 ⊗ var 3))
      (var 0 ⊗ var 3 ⊗ (var 1 ⊗ var 2)) refl
      ∙ ap (times (over c d)) (K.times_inverse B (whole_some b b_some)) ∙ K.times_one (over c d))
      (times_le K (whole K (a *ℤ d)) (whole K (c *ℤ b)) (times (inverse B) (inverse D))
      (K.times_keeps (inverse B) (inverse D) (low b b_some b_low) (low d d_some d_low))
      (whole_mono K (a *ℤ d) (c *ℤ b) h))

  -- ---- sums, signs and inverses of fractions

  pub over_plus_whole : (a w b : ℤ) → b ≢ pos 0 → over (a +ℤ w *ℤ b) b ≡ plus (over a b) (whole K w)
  over_plus_whole a w b some =
      sym (is_over (plus (over a b) (whole K w)) (a +ℤ w *ℤ b) b some
      (K.times_plus (whole K b) (over a b) (whole K w)
      ∙ ap₂ plus (over_times a b some)
      (K.times_commutes (whole K b) (whole K w) ∙ sym (whole_times K w b))
      ∙ sym (whole_plus K a (w *ℤ b))))

  pub over_negative : (a b : ℤ) → over (neg_ℤ a) b ≡ negative (over a b)
  over_negative a b =
      ap (λ w. times w (inverse (whole K b))) (whole_negative K a)
      ∙ ring K (whole K a ∷ inverse (whole K b) ∷ []) (neg (var 0) ⊗ var 1) (neg (var 0 ⊗ var 1))
      refl

  -- 1 less a fraction
  pub over_rest : (a b : ℤ) → b ≢ pos 0 → over (b -ℤ a) b ≡ plus e (negative (over a b))
  over_rest a b some =
      sym (is_over (plus e (negative (over a b))) (b -ℤ a) b some
      (ring K (whole K b ∷ over a b ∷ []) (var 0 ⊗ (unit ⊕ neg (var 1)))
      (var 0 ⊕ neg (var 0 ⊗ var 1)) refl
      ∙ ap (λ w. plus (whole K b) (negative w)) (over_times a b some)
      ∙ ap (plus (whole K b)) (sym (whole_negative K a)) ∙ sym (whole_plus K b (neg_ℤ a))))

  pub over_inverse : (a b : ℤ) → a ≢ pos 0 → b ≢ pos 0 → over b a ≡ inverse (over a b)
  over_inverse a b a_some b_some =
      let A = whole K a in
      let B = whole K b in
      let some : over a b ≢ o = λ none.
      whole_some a a_some (sym (over_times a b b_some) ∙ ap (times B) none ∙ times_zero K B) in
      cancel_factor (over a b) (over b a) (inverse (over a b)) some
      (ring K (A ∷ inverse A ∷ B ∷ inverse B ∷ []) (var 0 ⊗ var 3 ⊗ (var 2 ⊗ var 1))
      (var 0 ⊗ var 1 ⊗ (var 2 ⊗ var 3)) refl
      ∙ ap₂ times (K.times_inverse A (whole_some a a_some))
      (K.times_inverse B (whole_some b b_some))
      ∙ K.times_one e ∙ sym (K.times_inverse (over a b) some))

  -- over one bottom the order is that of the tops
  pub tops_most : (a c b : ℤ) → b ≢ pos 0 → pos 0 ≤ℤ b → AtMost K (over a b) (over c b) → a ≤ℤ c
  tops_most a c b some low h =
      whole_order K a c
      (subst₂ (AtMost K) (K.times_commutes (over a b) (whole K b) ∙ over_times a b some)
      (K.times_commutes (over c b) (whole K b) ∙ over_times c b some)
      (times_le K (over a b) (over c b) (whole K b) (whole_mono K (pos 0) b low) h))

  pub most_tops : (a c b : ℤ) → b ≢ pos 0 → pos 0 ≤ℤ b → a ≤ℤ c → AtMost K (over a b) (over c b)
  most_tops a c b some low h =
      times_le K (whole K a) (whole K c) (inverse (whole K b))
      (inverse_low K (whole K b) (whole_mono K (pos 0) b low) (whole_some b some))
      (whole_mono K a c h)

  -- a whole number over one
  pub whole_over : (w b : ℤ) → b ≢ pos 0 → over (w *ℤ b) b ≡ whole K w
  whole_over w b some =
      sym (is_over (whole K w) (w *ℤ b) b some
      (K.times_commutes (whole K b) (whole K w) ∙ sym (whole_times K w b)))
