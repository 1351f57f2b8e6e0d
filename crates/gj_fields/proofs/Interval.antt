-- The interval lemma: functions that are bounded and additive on a triangle are affine on its
-- projections, with one slope.
use Rattle.std.proofs.Common.{◌≡◌, ◌≢◌, ℕ, zero, suc, ℤ, pos, negsuc, true, false, ⊎_elim, [], ◌∷◌, refl, sym, subst, ap, ap₂, ◌∙◌}
use Rattle.gj_fields.specs.Fields.{OrderedField, AtMost, number, whole, HasFloor}
use Rattle.gj_fields.proofs.Ring.{ring, cancel}
use Rattle.gj_fields.proofs.Ring.Term.{var, nil, unit, neg, ◌⊕◌, ◌⊗◌}
use Rattle.gj_fields.proofs.Order.{either, le_refl, le_of_eq, le_of_not, zero_le_one, times_le, number_low, by_one, by_two, by_three}
use Rattle.gj_fields.proofs.Wholes.{above, not_one_le_zero}

module _ {R : Type 0} (K : OrderedField R) (floors : HasFloor K) where
  open K use {plus, times, zero as o, one as e, negative}

  -- z is at most the number of its part above 0
  pub most_above : (z : ℤ) → AtMost K (whole K z) (number K (above z))
  most_above (pos n) = le_refl K (number K n)
  most_above (negsuc n) =
      by_one K (number K (suc n) ∷ []) (neg (var 0)) nil nil (var 0) (number_low K (suc n)) refl

  -- what is not positive in all multiples, up to a bound, is not positive
  pub small_multiples : (x b : R) → ((n : ℕ) → AtMost K (times (number K n) x) b) → AtMost K x o
  small_multiples x b most =
      ⊎_elim (λ h. h)
      (λ other.
      let low : AtMost K o x = le_of_not K x o other in
      let some : x ≢ o = λ none. (let same : true ≡ false = sym (le_of_eq K x o none) ∙ other in
      cc) in
      let i = K.inverse x in
      let i_is : times x i ≡ e = K.times_inverse x some in
      let i_low : AtMost K o i =
      ⊎_elim (λ h. h)
      (λ h. absurd (not_one_le_zero K
      (by_two K (x ∷ i ∷ []) unit nil unit (var 0 ⊗ var 1) nil (var 0 ⊗ neg (var 1))
      (le_of_eq K e (times x i) (sym i_is))
      (K.times_keeps x (negative i) low (by_one K (i ∷ []) nil (neg (var 0)) (var 0) nil h refl))
      refl)))
      (K.total o i) in
      let z = floors.floor (times b i) in
      let n = suc (above z) in
      absurd (floors.high (times b i)
      (K.transitive _ (number K n) _
      (K.plus_keeps (whole K z) (number K (above z)) e (most_above z))
      (subst (λ w. AtMost K w (times b i))
      (ring K (number K n ∷ x ∷ i ∷ []) (var 0 ⊗ var 1 ⊗ var 2) (var 0 ⊗ (var 1 ⊗ var 2)) refl
      ∙ ap (times (number K n)) i_is ∙ K.times_one (number K n))
      (times_le K (times (number K n) x) b i i_low (most n))))))
      (either (K.at_most x o))

  -- from 0 to 1
  pub record IsInside (s : R) : Type 0 where
    pub low : AtMost K o s
    pub high : AtMost K s e

  module _ (k : R → R) (b : R) (additive : (s t : R) → AtMost K o s → AtMost K o t →
      AtMost K (plus s t) e → k (plus s t) ≡ plus (k s) (k t))
      (none : k e ≡ o) (bounded : (s : R) → IsInside s → AtMost K (k s) b) where
    -- the multiples of a value are values
    multiple : (s : R) → IsInside s → (n : ℕ) → (r : R) × IsInside r
        × (k r ≡ times (number K n) (k s))
    multiple s h zero =
        let k_zero : k o ≡ o =
        cancel K (k o) o (k o)
        (sym (additive o o (le_refl K o) (le_refl K o)
        (by_one K [] (nil ⊕ nil) unit nil unit (zero_le_one K) refl))
        ∙ ap k (K.plus_zero o) ∙ sym (K.plus_zero (k o)) ∙ K.plus_commutes (k o) o) in (
          o,
          record { low = le_refl K o; high = zero_le_one K },
          k_zero
              ∙ ring K (k s ∷ []) nil (nil ⊗ var 0) refl,
        )
    multiple s h (suc n) =
        let (r, r_in, r_is) = multiple s h n in
        let product = ap (λ w. plus w (k s)) r_is
        ∙ ring K (number K n ∷ k s ∷ []) (var 0 ⊗ var 1 ⊕ var 1) ((var 0 ⊕ unit) ⊗ var 1) refl in
        ⊎_elim
        (λ fits. (
          plus r s,
          record {
            low = by_two K (r ∷ s ∷ []) nil (var 0 ⊕ var 1) nil (var 0) nil (var 1) r_in.low
                h.low refl;
            high = fits;
          },
          additive r s r_in.low h.low fits ∙ product,
        ))
        (λ other.
        let more = le_of_not K (plus r s) e other in
        let t = plus (plus r s) (negative e) in
        let c = plus e (negative s) in
        let t_low : AtMost K o t = by_one K (r ∷ s ∷ []) nil (var 0 ⊕ var 1 ⊕ neg unit) unit
        (var 0 ⊕ var 1) more refl in
        let c_low : AtMost K o c = by_one K (s ∷ []) nil (unit ⊕ neg (var 0)) (var 0) unit h.high
        refl in
        let r_parts : plus c t ≡ r =
        ring K (r ∷ s ∷ []) (unit ⊕ neg (var 1) ⊕ (var 0 ⊕ var 1 ⊕ neg unit)) (var 0) refl in
        let e_parts : plus s c ≡ e = ring K (s ∷ []) (var 0 ⊕ (unit ⊕ neg (var 0))) unit refl in
        let first : k r ≡ plus (k c) (k t) =
        ap k (sym r_parts) ∙ additive c t c_low t_low
        (subst (λ w. AtMost K w e) (sym r_parts) r_in.high) in
        let second : plus (k s) (k c) ≡ o =
        sym (additive s c h.low c_low (le_of_eq K (plus s c) e e_parts)) ∙ ap k e_parts ∙ none in (
          t,
          record {
            low = t_low;
            high = by_two K (r ∷ s ∷ []) (var 0 ⊕ var 1 ⊕ neg unit) unit (var 0)
                unit (var 1) unit r_in.high h.high refl;
          },
          ring K (k t ∷ []) (var 0) (nil ⊕ var 0) refl ∙ ap (λ w. plus w (k t)) (sym second)
              ∙ ring K (k s ∷ k c ∷ k t ∷ []) (var 0 ⊕ var 1 ⊕ var 2) (var 1 ⊕ var 2 ⊕ var 0) refl
              ∙ ap (λ w. plus w (k s)) (sym first) ∙ product,
        ))
        (either (K.at_most (plus r s) e))

    not_positive : (s : R) → IsInside s → AtMost K (k s) o
    not_positive s h =
        small_multiples (k s) b (λ n. let (r, r_in, r_is) = multiple s h n in
        subst (λ w. AtMost K w b) r_is (bounded r r_in))

    pub additive_is_zero : (s : R) → IsInside s → k s ≡ o
    additive_is_zero s h =
        let c = plus e (negative s) in
        let c_in : IsInside c = record {
          low = by_one K (s ∷ []) nil (unit ⊕ neg (var 0)) (var 0) unit h.high refl;
          high = by_one K (s ∷ []) (unit ⊕ neg (var 0)) unit nil (var 0) h.low refl;
        } in
        let e_parts : plus s c ≡ e = ring K (s ∷ []) (var 0 ⊕ (unit ⊕ neg (var 0))) unit refl in
        let sum : plus (k s) (k c) ≡ o =
        sym (additive s c h.low c_in.low (le_of_eq K (plus s c) e e_parts)) ∙ ap k e_parts ∙ none in
        K.antisymmetric (k s) o (not_positive s h)
        (by_two K (k s ∷ k c ∷ []) nil (var 0) (var 1) nil nil (var 0 ⊕ var 1) (not_positive c c_in)
        (le_of_eq K o (plus (k s) (k c)) (sym sum)) refl)

  -- the same without 0 at 1: the function is s times its value at 1
  pub additive_is_linear : (k : R → R) (b : R) →
      ((s t : R) → AtMost K o s → AtMost K o t → AtMost K (plus s t) e →
      k (plus s t) ≡ plus (k s) (k t)) →
      ((s : R) → IsInside s → AtMost K (k s) b) →
      ((s : R) → IsInside s → AtMost K (negative (k s)) b) →
      (s : R) → IsInside s → k s ≡ times s (k e)
  additive_is_linear k b additive upper lower s h =
      let d = λ (t : R). plus (k t) (negative (times t (k e))) in
      let e_in : IsInside e = record { low = zero_le_one K; high = le_refl K e } in
      let o_in : IsInside o = record { low = le_refl K o; high = zero_le_one K } in
      let k_zero : k o ≡ o =
      cancel K (k o) o (k o)
      (sym (additive o o (le_refl K o) (le_refl K o)
      (by_one K [] (nil ⊕ nil) unit nil unit (zero_le_one K) refl))
      ∙ ap k (K.plus_zero o) ∙ sym (K.plus_zero (k o)) ∙ K.plus_commutes (k o) o) in
      let b_low : AtMost K o b = subst (λ w. AtMost K w b) k_zero (upper o o_in) in
      let zero_there = additive_is_zero d (plus b b)
      (λ t u t_low u_low fits.
      ap (λ w. plus w (negative (times (plus t u) (k e)))) (additive t u t_low u_low fits)
      ∙ ring K (t ∷ u ∷ k e ∷ k t ∷ k u ∷ []) (var 3 ⊕ var 4 ⊕ neg ((var 0 ⊕ var 1) ⊗ var 2))
      (var 3 ⊕ neg (var 0 ⊗ var 2) ⊕ (var 4 ⊕ neg (var 1 ⊗ var 2))) refl)
      (ring K (k e ∷ []) (var 0 ⊕ neg (unit ⊗ var 0)) nil refl)
      (λ t t_in.
      by_three K (t ∷ k t ∷ k e ∷ b ∷ []) (var 1 ⊕ neg (var 0 ⊗ var 2)) (var 3 ⊕ var 3) (var 1)
      (var 3)
      (neg (var 2) ⊗ var 0) (var 3 ⊗ var 0) (var 0 ⊗ var 3) (unit ⊗ var 3)
      (upper t t_in) (times_le K (negative (k e)) b t t_in.low (lower e e_in))
      (times_le K t e b b_low t_in.high) refl)
      s h in
      cancel K (k s) (times s (k e)) (negative (times s (k e)))
      (zero_there ∙ ring K (times s (k e) ∷ []) nil (var 0 ⊕ neg (var 0)) refl)

  -- on a triangle
  pub record HaveSlope (g : R → R) (slope : R) : Type 0 where
    pub is : (s : R) → IsInside s → g s ≡ plus (g o) (times s slope)

  pub triangle_has_slope : (g h k : R → R) (b : R) →
      ((s t : R) → AtMost K o s → AtMost K o t → AtMost K (plus s t) e →
      plus (g s) (h t) ≡ k (plus s t)) →
      ((s : R) → IsInside s → AtMost K (k s) b) →
      ((s : R) → IsInside s → AtMost K (negative (k s)) b) →
      (slope : R) × HaveSlope g slope × HaveSlope h slope × HaveSlope k slope
  triangle_has_slope g h k b additive upper lower =
      let d = λ (s : R). plus (k s) (negative (k o)) in
      let o_in : IsInside o = record { low = le_refl K o; high = zero_le_one K } in
      let first = λ (s : R) (s_in : IsInside s). ap k (sym (K.plus_zero s))
      ∙ sym (additive s o s_in.low (le_refl K o)
      (subst (λ w. AtMost K w e) (sym (K.plus_zero s)) s_in.high)) in
      let sum_zero = λ (s : R). ring K (s ∷ []) (nil ⊕ var 0) (var 0) refl in
      let second = λ (s : R) (s_in : IsInside s). ap k (sym (sum_zero s))
      ∙ sym (additive o s (le_refl K o) s_in.low
      (subst (λ w. AtMost K w e) (sym (sum_zero s)) s_in.high)) in
      let corner : k o ≡ plus (g o) (h o) = first o o_in in
      let linear = additive_is_linear d (plus b b)
      (λ s t s_low t_low fits.
      let s_in : IsInside s = record {
        low = s_low;
        high =
            by_two K (s ∷ t ∷ []) (var 0) unit nil (var 1) (var 0 ⊕ var 1) unit t_low fits refl;
      } in
      let t_in : IsInside t = record {
        low = t_low;
        high =
            by_two K (s ∷ t ∷ []) (var 1) unit nil (var 0) (var 0 ⊕ var 1) unit s_low fits refl;
      } in
      ap₂ (λ v w. plus v (negative w)) (sym (additive s t s_low t_low fits)) corner
      ∙ ring K (g s ∷ h t ∷ g o ∷ h o ∷ []) (var 0 ⊕ var 1 ⊕ neg (var 2 ⊕ var 3))
      ((var 0 ⊕ var 3) ⊕ neg (var 2 ⊕ var 3) ⊕ ((var 2 ⊕ var 1) ⊕ neg (var 2 ⊕ var 3))) refl
      ∙ sym (ap₂ plus (ap₂ (λ v w. plus v (negative w)) (first s s_in) corner)
      (ap₂ (λ v w. plus v (negative w)) (second t t_in) corner)))
      (λ s s_in. by_two K (k s ∷ k o ∷ b ∷ []) (var 0 ⊕ neg (var 1)) (var 2 ⊕ var 2) (var 0) (var 2)
      (neg (var 1)) (var 2) (upper s s_in) (lower o o_in) refl)
      (λ s s_in. by_two K (k s ∷ k o ∷ b ∷ []) (neg (var 0 ⊕ neg (var 1))) (var 2 ⊕ var 2)
      (neg (var 0)) (var 2) (var 1) (var 2) (lower s s_in) (upper o o_in) refl) in
      let slope = d e in (
        slope,
        record {
          is = λ s s_in.
              ring K (g s ∷ h o ∷ k o ∷ []) (var 0)
              ((var 0 ⊕ var 1) ⊕ neg (var 2) ⊕ (var 2 ⊕ neg (var 1))) refl
              ∙ ap₂ (λ v w. plus v (plus w (negative (h o))))
              (ap (λ w. plus w (negative (k o))) (sym (first s s_in)) ∙ linear s s_in) corner
              ∙ ring K (times s slope ∷ g o ∷ h o ∷ []) (var 0 ⊕ (var 1 ⊕ var 2 ⊕ neg (var 2)))
              (var 1 ⊕ var 0) refl;
        },
        record {
          is = λ s s_in.
              ring K (h s ∷ g o ∷ k o ∷ []) (var 0)
              ((var 1 ⊕ var 0) ⊕ neg (var 2) ⊕ (var 2 ⊕ neg (var 1))) refl
              ∙ ap₂ (λ v w. plus v (plus w (negative (g o))))
              (ap (λ w. plus w (negative (k o))) (sym (second s s_in)) ∙ linear s s_in) corner
              ∙ ring K (times s slope ∷ g o ∷ h o ∷ []) (var 0 ⊕ (var 1 ⊕ var 2 ⊕ neg (var 1)))
              (var 2 ⊕ var 0) refl;
        },
        record {
          is = λ s s_in.
              ring K (k s ∷ k o ∷ []) (var 0) (var 1 ⊕ (var 0 ⊕ neg (var 1))) refl
              ∙ ap (plus (k o)) (linear s s_in);
        },
      )
