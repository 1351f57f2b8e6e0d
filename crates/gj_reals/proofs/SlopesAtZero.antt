-- The slopes at 0 of a continuous minimal function, and those of the mixed-integer cut.
use Rattle.std.proofs.Common.{◌≡◌, ◌≢◌, ℕ, ◌+◌, ◌-◌, [], ◌∷◌, refl, sym, subst₂, ap, ◌∙◌, arith}
use Rattle.gj_shape.specs.FunctionData.{FunctionData, IsWithinBounds, IsContinuous, at}
use Rattle.gj_shape.specs.Table.{IsMinimal}
use Rattle.gj_shape.proofs.TableLemmas.{table_of_order, at_plus_order, pieces_of}
use Rattle.gj_fields.specs.Fields.{OrderedField, HasFloor, AtMost, number, whole}
use Rattle.gj_fields.specs.Functions.{HasRules}
use Rattle.gj_fields.specs.MixedCuts.{HasSlopesAtZero}
use Rattle.gj_fields.proofs.Ring.{ring}
use Rattle.gj_fields.proofs.Ring.Term.{var, nil, unit, neg, ◌⊕◌, ◌⊗◌}
use Rattle.gj_fields.proofs.Order.{zero_le_one, times_le, number_low, number_plus, by_one}
use Rattle.gj_fields.proofs.Interval.{IsInside}
use Rattle.gj_reals.specs.RealFunctions.{real_function, real_place, slope_up, slope_down}
use Rattle.gj_reals.proofs.AtReals.{number_some, order_some, rules_at_reals}
use Rattle.gj_reals.proofs.Lines.{point, on_line}

module _ {R : Type 0} (K : OrderedField R) (floors : HasFloor K) (f : FunctionData)
    (bounds : IsWithinBounds f) (continuous : IsContinuous f)
    (h : IsMinimal f) where
  open K use {plus, times, zero as o, one as e, negative}

  abbrev q : R
  q = number K f.order

  abbrev Y : R
  Y = K.inverse (number K f.scale)

  abbrev V : ℕ → R
  V a = whole K (at f.value a)

  q_some : q ≢ o
  q_some = number_some K f.order (order_some K floors f (pieces_of bounds))

  q_is : times q (K.inverse q) ≡ e
  q_is = K.times_inverse q q_some

  zero_value : V 0 ≡ o
  zero_value = ap (whole K) (sym (table_of_order f 0) ∙ (h 1 (omega arith)).zero_at_zero)

  rules : HasRules K (real_function K floors f) (real_place K f)
  rules = rules_at_reals K floors f (pieces_of bounds) h

  -- order times what is from 0 to 1/order is from 0 to 1
  scaled_inside : (x : R) → AtMost K o x → AtMost K x (K.inverse q) → IsInside K floors (times q x)
  scaled_inside x low fits = record {
    low = K.times_keeps q x (number_low K f.order) low;
    high = subst₂ (AtMost K) (K.times_commutes x q) (K.times_commutes (K.inverse q) q ∙ q_is)
        (times_le K x (K.inverse q) q (number_low K f.order) fits);
  }

  pub slopes : HasSlopesAtZero K (real_function K floors f) (slope_up K f) (slope_down K f)
  slopes = record {
    near = K.inverse q;
    positive = λ most. K.different (K.antisymmetric e o
        (subst₂ (AtMost K) (K.times_commutes (K.inverse q) q ∙ q_is)
        (ring K (q ∷ []) (nil ⊗ var 0) nil refl)
        (times_le K (K.inverse q) o q (number_low K f.order) most)) (zero_le_one K));
    rises = λ x low fits.
        let l = times q x in
        let there : point K floors f bounds continuous 0 l ≡ x =
        ring K (q ∷ x ∷ K.inverse q ∷ []) ((nil ⊕ var 0 ⊗ var 1) ⊗ var 2) (var 1 ⊗ (var 0 ⊗ var 2))
        refl ∙ ap (times x) q_is ∙ K.times_one x in
        ap (real_function K floors f) (sym there)
        ∙ on_line K floors f bounds continuous 0 l (scaled_inside x low fits)
        ∙ ap (λ w. times (plus (times (plus e (negative l)) w) (times l (V 1))) Y) zero_value
        ∙ ring K (q ∷ x ∷ V 1 ∷ Y ∷ [])
        (((unit ⊕ neg (var 0 ⊗ var 1)) ⊗ nil ⊕ var 0 ⊗ var 1 ⊗ var 2) ⊗ var 3)
        (var 0 ⊗ (var 2 ⊕ neg nil) ⊗ var 3 ⊗ var 1) refl
        ∙ ap (λ w. times (times (times q (plus (V 1) (negative w))) Y) x) (sym zero_value);
    falls = λ x low fits.
        let r = times q x in
        let inside = scaled_inside x low fits in
        let l = plus e (negative r) in
        let last = f.order - 1 in
        let next : last + 1 ≡ f.order = let some = order_some K floors f (pieces_of bounds) in
        omega arith in
        let turn : 0 + f.order ≡ f.order = omega arith in
        let end : V (last + 1) ≡ o = ap V (next ∙ sym turn)
        ∙ ap (whole K) (at_plus_order f.value 0 f.order bounds.value_length) ∙ zero_value in
        let number_last : number K f.order ≡ plus (number K last) e =
        ap (number K) (sym next) ∙ number_plus K last 1
        ∙ ap (plus (number K last)) (ring K [] (nil ⊕ unit) unit refl) in
        let there : point K floors f bounds continuous last l ≡ plus (negative x) e =
        ring K (number K last ∷ q ∷ x ∷ K.inverse q ∷ [])
        ((var 0 ⊕ (unit ⊕ neg (var 1 ⊗ var 2))) ⊗ var 3)
        ((var 0 ⊕ unit) ⊗ var 3 ⊕ neg (var 2 ⊗ (var 1 ⊗ var 3))) refl
        ∙ ap (λ w. plus (times w (K.inverse q)) (negative (times x (times q (K.inverse q)))))
        (sym number_last)
        ∙ ap (λ w. plus w (negative (times x w))) q_is
        ∙ ring K (x ∷ []) (unit ⊕ neg (var 0 ⊗ unit)) (neg (var 0) ⊕ unit) refl in
        sym (rules.function.has_period (negative x)) ∙ ap (real_function K floors f) (sym there)
        ∙ on_line K floors f bounds continuous last l (record {
          low = by_one K (r ∷ []) nil (unit ⊕ neg (var 0)) (var 0) unit inside.high refl;
          high = by_one K (r ∷ []) (unit ⊕ neg (var 0)) unit nil (var 0) inside.low refl;
        })
        ∙ ap (λ w. times (plus (times (plus e (negative l)) (V last)) (times l w)) Y) end
        ∙ ring K (q ∷ x ∷ V last ∷ Y ∷ [])
        (((unit ⊕ neg (unit ⊕ neg (var 0 ⊗ var 1))) ⊗ var 2 ⊕ (unit ⊕ neg (var 0 ⊗ var 1)) ⊗ nil)
        ⊗ var 3)
        (var 0 ⊗ (var 2 ⊕ neg nil) ⊗ var 3 ⊗ var 1) refl
        ∙ ap (λ w. times (times (times q (plus (V last) (negative w))) Y) x) (sym zero_value);
  }
