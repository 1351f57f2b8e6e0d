-- Values, slopes and weights that the program gives as fractions, as numbers of the field.
use Rattle.std.proofs.Common.{◌≡◌, ◌≢◌, ℕ, ◌*◌, ◌-◌, ◌<◌, ℤ, pos, neg_ℤ, ◌+ℤ◌, ◌-ℤ◌, ◌*ℤ◌, ◌≤ℤ◌, ◌<ℤ◌, unsigned_abs, true, false, ⊎_elim, [], ◌∷◌, refl, sym, subst, ap, ap₂, ◌∙◌, mul-pos, arith}
use Rattle.std.proofs.lemmas.Int.{ints, by_lt_z}
use Rattle.std.specs.Int.{int_div_euclid}
use Rattle.gj_frac.specs.declared.Frac.{Frac}
use Rattle.gj_frac.specs.Floor.{HasFractionalPart}
use Rattle.gj_frac.specs.Fraction.{SameValue, IsRatio, IsInside, fraction_of, product_of, quotient_of, negation_of, numerator, denominator}
use Rattle.gj_frac.proofs.Floors.{quotient_is_floor}
use Rattle.gj_lemmas.proofs.Integers.{one_mul_z, mul_positive_z}
use Rattle.gj_lemmas.proofs.Ring as whole_ring
use Rattle.gj_shape.specs.FunctionData.{FunctionData, IsWithinBounds, at}
use Rattle.gj_shape.specs.Table.{table, IsMinimal}
use Rattle.gj_shape.proofs.LeastDenominator.{denominator_some}
use Rattle.gj_shape.proofs.OverScale.{denominator_is}
use Rattle.gj_shape.proofs.ValueLemmas.{natural_index}
use Rattle.gj_shape.proofs.TableLemmas.{pieces_of}
use Rattle.gj_theory.specs.Cuts.{IsValueOf, IsGmicValue, one_minus}
use Rattle.gj_theory.proofs.CutsByTables.{whole_and_part}
use Rattle.gj_fields.specs.Fields.{OrderedField, HasFloor, AtMost, number, whole}
use Rattle.gj_fields.specs.MixedCuts.{weight_of}
use Rattle.gj_fields.proofs.Ring.{ring}
use Rattle.gj_fields.proofs.Ring.Term.{var, nil, unit, neg, ◌⊕◌, ◌⊗◌}
use Rattle.gj_fields.proofs.Order.{either}
use Rattle.gj_fields.proofs.Points.{at_same_point}
use Rattle.gj_fields.proofs.Wholes.{whole_plus, whole_mono, whole_order}
use Rattle.gj_fields.proofs.Floors.{floor_is}
use Rattle.gj_reals.specs.RealFunctions.{real_function}
use Rattle.gj_reals.proofs.AtFractions.{value_at_fraction}
use Rattle.gj_reals.proofs.AtReals.{order_some, rules_at_reals, inverse_low}
use Rattle.gj_reals.proofs.Lift.{whole_negative, whole_times}
use Rattle.gj_real_cuts.specs.Gmic.{part_of, gmic_at, gmic}
use Rattle.gj_real_cuts.specs.RealRows.{number_of, IsRealValue}
use Rattle.gj_real_cuts.proofs.Over.{whole_some, over, over_times, over_same, over_product, over_most, most_over, over_plus_whole, over_negative, over_rest, over_inverse, tops_most, most_tops, whole_over}
use Rattle.gj_real_cuts.proofs.RowCuts.{point_of_whole}

-- what is above 0 is not 0
pub not_zero : (z : ℤ) → pos 0 <ℤ z → z ≢ pos 0
not_zero z some h = absurd (subst (λ y. pos 0 <ℤ y → ⊥) (sym h) (λ k. omega (arith, ints)) some)

pub den_some : (x : Frac) → x.den ≢ pos 0
den_some x = not_zero x.den x.lowest.positive

den_low : (x : Frac) → pos 0 ≤ℤ x.den
den_low x = let some = x.lowest.positive in omega (arith, ints)

pub nat_some : (n : ℕ) → 0 < n → pos n ≢ pos 0
nat_some n some = not_zero (pos n) (omega (arith, ints))

product_not_zero : (a b : ℤ) → pos 0 <ℤ a → pos 0 <ℤ b → (a *ℤ b) ≢ pos 0
product_not_zero a b a_some b_some = not_zero (a *ℤ b) (mul_positive_z a b a_some b_some)

module _ {R : Type 0} (K : OrderedField R) (floors : HasFloor K) where
  open K use {plus, times, zero as o, one as e, negative, inverse}

  pub ratio_number : (x : Frac) (a b : ℤ) → b ≢ pos 0 → IsRatio x a b → number_of K x ≡ over K a b
  ratio_number x a b some is = over_same K x.num x.den a b (den_some x) some is

  -- the right side of a row
  pub right_side : (x : Frac) (k n : ℤ) → n ≢ pos 0 → HasFractionalPart x k n →
      number_of K x ≡ plus (whole K (int_div_euclid x.num x.den)) (over K k n)
  right_side x k n some part =
      let w = int_div_euclid x.num x.den in
      let swapped : w *ℤ n +ℤ k ≡ k +ℤ w *ℤ n = omega (arith, ints) in
      ratio_number x (w *ℤ n +ℤ k) n some (whole_and_part x k n w (quotient_is_floor x) part)
      ∙ ap (λ z. over K z n) swapped ∙ over_plus_whole K k w n some
      ∙ K.plus_commutes (over K k n) (whole K w)

  -- ---- by a function

  module _ (f : FunctionData) (bounds : IsWithinBounds f) where
    pub value_of_function : IsMinimal f → (x y : Frac) → IsValueOf f x y →
        IsRealValue K (real_function K floors f) x y
    value_of_function h x y value =
        let d = unsigned_abs (denominator x) in
        let d_some : 0 < d = denominator_some x in
        let n = f.order * d in
        let n_some : 0 < n = mul-pos (order_some K floors f (pieces_of bounds)) d_some in
        let s_some : 0 < f.scale * d = mul-pos (omega (arith, bounds.scale_low)) d_some in
        let a = x.num *ℤ pos f.order in
        let (i, congruent) = natural_index a n n_some in
        let k = congruent.0 in
        let grid : number_of K x ≡ over K a (pos n) =
        over_same K x.num x.den a (pos n) (den_some x) (nat_some n n_some)
        (whole_ring.by_ring (x.num ∷ pos f.order ∷ pos d ∷ []) (search whole_ring.ring depth 30)
        refl
        ∙ ap (λ z. x.num *ℤ pos f.order *ℤ z) (denominator_is x)) in
        let place : over K (pos i) (pos n) ≡ plus (number_of K x) (whole K k) =
        ap (λ z. over K z (pos n)) congruent.1 ∙ over_plus_whole K a k (pos n) (nat_some n n_some)
        ∙ ap (λ z. plus z (whole K k)) (sym grid) in
        ratio_number y (table f d i) (pos (f.scale * d)) (nat_some (f.scale * d) s_some)
        (value i congruent)
        ∙ sym (value_at_fraction K floors f (pieces_of bounds) d d_some i)
        ∙ at_same_point K (real_function K floors f)
        (rules_at_reals K floors f (pieces_of bounds) h).function
        (over K (pos i) (pos n)) (number_of K x) (point_of_whole K (number_of K x) k _ place)

    pub rise_number : (up : Frac) (i : ℕ) →
        IsRatio up (pos f.order *ℤ (at f.value i -ℤ at f.value 0)) (pos f.scale) →
        number_of K up ≡ times (times (number K f.order)
        (plus (whole K (at f.value i)) (negative (whole K (at f.value 0)))))
        (inverse (number K f.scale))
    rise_number up i is =
        let v = at f.value i in
        let z = at f.value 0 in
        ratio_number up (pos f.order *ℤ (v -ℤ z)) (pos f.scale)
        (nat_some f.scale (omega (arith, bounds.scale_low))) is
        ∙ ap (λ s. times s (inverse (number K f.scale)))
        (whole_times K (pos f.order) (v -ℤ z)
        ∙ ap (times (number K f.order)) (whole_plus K v (neg_ℤ z)
        ∙ ap (plus (whole K v)) (whole_negative K z)))

  -- ---- weights

  pub weight_number : (up down c w : Frac) →
      (pos 0 ≤ℤ numerator c →
      SameValue (fraction_of w) (product_of (fraction_of up) (fraction_of c))) →
      (numerator c <ℤ pos 0 →
      SameValue (fraction_of w) (product_of (fraction_of down) (negation_of (fraction_of c)))) →
      IsRealValue K (weight_of K (number_of K up) (number_of K down)) c w
  weight_number up down c w rises falls =
      let x = number_of K c in
      let product =
      λ (s : Frac) (t : ℤ) (same : SameValue (fraction_of w)
      (record { top = s.num *ℤ t; bottom = s.den *ℤ c.den })).
      ratio_number w (s.num *ℤ t) (s.den *ℤ c.den)
      (product_not_zero s.den c.den s.lowest.positive c.lowest.positive) same
      ∙ sym (over_product K s.num s.den t c.den (den_some s) (den_some c)
      (product_not_zero s.den c.den s.lowest.positive c.lowest.positive)) in
      ⊎_elim
      (λ low.
      let top : pos 0 ≤ℤ c.num =
      whole_order K (pos 0) c.num (subst (AtMost K o) (over_times K c.num c.den (den_some c))
      (K.times_keeps (whole K c.den) x (whole_mono K (pos 0) c.den (den_low c)) low)) in
      product up c.num (rises top)
      ∙ sym (ap (λ b. elim b as (λ _. R)
      [ true ↦ times (number_of K up) x | false ↦ times (number_of K down) (negative x) ]) low))
      (λ high.
      let top : c.num <ℤ pos 0 =
      by_lt_z c.num (pos 0) (λ less. less)
      (λ most. absurd (let same : true ≡ false =
      sym (K.times_keeps (whole K c.num) (inverse (whole K c.den)) (whole_mono K (pos 0) c.num most)
      (inverse_low K (whole K c.den) (whole_mono K (pos 0) c.den (den_low c))
      (whole_some K c.den (den_some c)))) ∙ high in cc)) in
      product down (neg_ℤ c.num) (falls top)
      ∙ ap (times (number_of K down)) (over_negative K c.num c.den)
      ∙ sym (ap (λ b. elim b as (λ _. R)
      [ true ↦ times (number_of K up) x | false ↦ times (number_of K down) (negative x) ]) high))
      (either (K.at_most o x))

  -- ---- the mixed-integer cut

  module _ (f : Frac) (inside : IsInside f) where
    F : R
    F = number_of K f

    f_some : f.num ≢ pos 0
    f_some = not_zero f.num inside.0

    rest_positive : pos 0 <ℤ (f.den -ℤ f.num)
    rest_positive = let high = inside.1 in omega (arith, ints)

    rest_some : (f.den -ℤ f.num) ≢ pos 0
    rest_some = not_zero (f.den -ℤ f.num) rest_positive

    pub place_some : AtMost K (number_of K f) o → ⊥
    place_some h =
        let low = inside.0 in
        let top : f.num ≤ℤ pos 0 =
        tops_most K f.num (pos 0) f.den (den_some f) (den_low f)
        (subst (AtMost K (number_of K f))
        (ring K (inverse (whole K f.den) ∷ []) nil (nil ⊗ var 0) refl) h) in
        absurd (omega (arith, ints))

    pub place_below : AtMost K e (number_of K f) → ⊥
    place_below h =
        let high = inside.1 in
        let top : f.den ≤ℤ f.num =
        tops_most K f.den f.num f.den (den_some f) (den_low f)
        (subst (λ s. AtMost K s (number_of K f))
        (sym (K.times_inverse (whole K f.den) (whole_some K f.den (den_some f)))) h) in
        absurd (omega (arith, ints))

    -- 1/f and 1/(1 - f)
    inverse_is : over K f.den f.num ≡ inverse F
    unfolding F
    inverse_is = over_inverse K f.num f.den f_some (den_some f)

    rest_inverse : over K f.den (f.den -ℤ f.num) ≡ inverse (plus e (negative F))
    unfolding F
    rest_inverse =
        over_inverse K (f.den -ℤ f.num) f.den rest_some (den_some f)
        ∙ ap inverse (over_rest K f.num f.den (den_some f))

    one_bottom : (a b : ℤ) → (pos 1 *ℤ b -ℤ a *ℤ pos 1 ≡ b -ℤ a) × (pos 1 *ℤ b ≡ b)
    one_bottom a b = (omega (arith, ints), omega (arith, ints))

    pub up_number : (up : Frac) → SameValue (fraction_of up)
        (quotient_of (record { top = pos 1; bottom = pos 1 }) (fraction_of f)) →
        number_of K up ≡ inverse (number_of K f)
    unfolding F
    up_number up is =
        ratio_number up f.den f.num f_some
        (ap (λ z. up.num *ℤ z) (sym (one_mul_z f.num)) ∙ is
        ∙ ap (λ z. z *ℤ up.den) (one_mul_z f.den))
        ∙ inverse_is

    pub down_number : (down : Frac) →
        SameValue (fraction_of down) (quotient_of (record { top = pos 1; bottom = pos 1 })
        (one_minus (fraction_of f))) →
        number_of K down ≡ inverse (plus e (negative (number_of K f)))
    unfolding F
    down_number down is =
        ratio_number down f.den (f.den -ℤ f.num) rest_some
        (ap (λ z. down.num *ℤ z) (sym (one_mul_z _ ∙ (one_bottom f.num f.den).0)) ∙ is
        ∙ ap (λ z. z *ℤ down.den) (one_mul_z _ ∙ one_mul_z f.den))
        ∙ rest_inverse

    module _ (x : Frac) where
      w : ℤ
      w = int_div_euclid x.num x.den

      top : ℤ
      top = x.num -ℤ w *ℤ x.den

      r : R
      r = over K top x.den

      floor_here : floors.floor (number_of K x) ≡ w
      unfolding w
      floor_here =
          let floor = quotient_is_floor x in
          floor_is K floors (number_of K x) w
          (subst (λ s. AtMost K s (number_of K x)) (whole_over K w x.den (den_some x))
          (most_tops K (w *ℤ x.den) x.num x.den (den_some x) (den_low x) floor.at_most))
          (λ h.
          let next = floor.next_above in
          let above : ((w +ℤ pos 1) *ℤ x.den) ≤ℤ x.num =
          tops_most K ((w +ℤ pos 1) *ℤ x.den) x.num x.den (den_some x) (den_low x)
          (subst (λ s. AtMost K s (number_of K x))
          (ring K (whole K w ∷ []) (var 0 ⊕ unit) (var 0 ⊕ (nil ⊕ unit)) refl
          ∙ sym (whole_plus K w (pos 1)) ∙ sym (whole_over K (w +ℤ pos 1) x.den (den_some x))) h) in
          absurd (omega (arith, ints)))

      part_is : part_of K floors (number_of K x) ≡ r
      unfolding r top
      part_is =
          let back : x.num ≡ top +ℤ w *ℤ x.den = omega (arith, ints) in
          ap (λ (z : ℤ). plus (number_of K x) (negative (whole K z))) floor_here
          ∙ ap (λ z. plus (over K z x.den) (negative (whole K w))) back
          ∙ ap (λ z. plus z (negative (whole K w))) (over_plus_whole K top w x.den (den_some x))
          ∙ ring K (over K top x.den ∷ whole K w ∷ []) (var 0 ⊕ var 1 ⊕ neg (var 1)) (var 0) refl

      pub value_of_gmic : (y : Frac) → IsGmicValue f x y →
          IsRealValue K (gmic K floors (number_of K f)) x y
      unfolding F r top w
      value_of_gmic y value =
          let floor = quotient_is_floor x in
          let F' = number_of K f in
          let at = ap (gmic_at K F') part_is in
          ⊎_elim
          (λ h.
          let most = over_most K top x.den f.num f.den (den_some x) (den_some f) (den_low x)
          (den_low f) h in
          let d_some = product_not_zero x.den f.num x.lowest.positive inside.0 in
          ratio_number y (top *ℤ f.den) (x.den *ℤ f.num) d_some
          (value.rises w floor (λ less. omega (arith, ints)))
          ∙ sym (over_product K top x.den f.den f.num (den_some x) f_some d_some)
          ∙ ap (times r) inverse_is
          ∙ sym (at
          ∙ ap (λ b. elim b as (λ _. R) [
            | true ↦ times r (inverse F')
            | false ↦ times
                (plus e (negative r)) (inverse (plus e (negative F')))
          ]) h))
          (λ h.
          let d_some = product_not_zero x.den (f.den -ℤ f.num) x.lowest.positive rest_positive in
          let less : (f.num *ℤ x.den) <ℤ (top *ℤ f.den) =
          by_lt_z (f.num *ℤ x.den) (top *ℤ f.den) (λ l. l)
          (λ most. absurd (let same : true ≡ false =
          sym (most_over K top x.den f.num f.den (den_some x) (den_some f) (den_low x) (den_low f)
          most) ∙ h in cc)) in
          let is = value.falls w floor less in
          ratio_number y ((x.den -ℤ top) *ℤ f.den) (x.den *ℤ (f.den -ℤ f.num)) d_some
          (ap₂ (λ s t. y.num *ℤ (s *ℤ t)) (sym (one_bottom top x.den).1)
          (sym (one_bottom f.num f.den).0) ∙ is
          ∙ ap₂ (λ s t. (s *ℤ t) *ℤ y.den) (one_bottom top x.den).0 (one_bottom f.num f.den).1)
          ∙ sym (over_product K (x.den -ℤ top) x.den f.den (f.den -ℤ f.num) (den_some x) rest_some
          d_some)
          ∙ ap₂ times (over_rest K top x.den (den_some x)) rest_inverse
          ∙ sym (at
          ∙ ap (λ b. elim b as (λ _. R) [
            | true ↦ times r (inverse F')
            | false ↦ times
                (plus e (negative r)) (inverse (plus e (negative F')))
          ]) h))
          (either (K.at_most r F'))
