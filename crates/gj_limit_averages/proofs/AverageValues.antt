-- Two functions on a finer grid that average to a function do so at all numbers of a field with
-- floors.
use Rattle.std.proofs.Common.{◌≡◌, ℕ, ◌+◌, ◌-◌, ◌*◌, ◌/◌, ◌%◌, ◌<◌, ℤ, pos, ◌+ℤ◌, ◌-ℤ◌, ◌*ℤ◌, [], ◌∷◌, refl, sym, subst, subst₂, ap, ap₂, ◌∙◌, mul-pos, arith}
use Rattle.std.proofs.Math.Nat.{mod-lt, div-add-mod'}
use Rattle.std.proofs.lemmas.Int.{ints}
use Rattle.gj_lemmas.proofs.Ring.{by_ring, ring as whole_ring}
use Rattle.gj_shape.specs.FunctionData.{FunctionData, IsPiecewise}
use Rattle.gj_fields.specs.Fields.{OrderedField, HasFloor, AtMost, number, whole}
use Rattle.gj_fields.proofs.Ring.{ring}
use Rattle.gj_fields.proofs.Ring.Term.{var, nil, unit, ◌⊕◌, ◌⊗◌}
use Rattle.gj_fields.proofs.Order.{times_le, by_two, number_low}
use Rattle.gj_fields.proofs.Wholes.{whole_plus, number_times, number_mono}
use Rattle.gj_reals.specs.RealFunctions.{index_of, value_between, real_function}
use Rattle.gj_reals.proofs.Places.{IsIndex, index_is}
use Rattle.gj_reals.proofs.AtReals.{HasParts, some_parts, value_is, number_some, inverse_low, order_some}
use Rattle.gj_reals.proofs.Lift.{whole_times}
use Rattle.gj_limit_averages.specs.Averages.{IsMinimalOver, AverageToFunction}
use Rattle.gj_limit_averages.proofs.GridValues.{number_next, sum_between}
use Rattle.gj_limit_averages.proofs.RefinedData.{pieces_on_grid}

-- a minimal function on a finer grid has pieces
pub pieces_over : (f : FunctionData) (m c : ℕ) (g : FunctionData) → IsPiecewise f → 0 < m → 0 < c →
    IsMinimalOver f m c g → IsPiecewise g
pieces_over f m c g l m_some c_some h =
    pieces_on_grid f m c g l m_some c_some h.order h.place h.scale h.left_length h.value_length
    h.right_length

module _ {R : Type 0} (K : OrderedField R) (floors : HasFloor K) (f : FunctionData)
    (bounds : IsPiecewise f)
    (m : ℕ) (some : 0 < m) where
  open K use {plus, times, zero as o, one as e, negative}

  abbrev M : R
  M = number K m

  abbrev w : R
  w = K.inverse M

  M_is : times M w ≡ e
  M_is = K.times_inverse M (number_some K m some)

  -- of a whole number on the finer grid
  coarse_index : (z : ℤ) (a : ℕ) → IsIndex (f.order * m) z a → (A r : ℕ) → a ≡ A * m + r →
      (y : ℤ) × (pos m *ℤ y +ℤ pos r ≡ z) × IsIndex f.order y A
  coarse_index z a i A r split =
      let n = i.n in
      let k = i.m in
      let i_is = i.is in
      let y = pos (A + k * f.order) -ℤ pos (n * f.order) in
      let first : pos m *ℤ y ≡ pos (A * m + k * (f.order * m)) -ℤ pos (n * (f.order * m)) =
      by_ring (pos m ∷ pos A ∷ pos k ∷ pos n ∷ pos f.order ∷ [])
      (search whole_ring depth 30) refl in (
        y,
        (let last : A * m + k * (f.order * m) + r ≡ a + k * (f.order * m) = omega arith in
            omega (arith, ints)),
        record { n = n; m = k; is = omega (arith, ints) },
      )

  -- the place on the coarse grid
  coarse_parts : (g : FunctionData) (pieces : IsPiecewise g) → g.order ≡ f.order * m →
      (x : R) (z y : ℤ) (l : R) (r : ℕ) → r < m → pos m *ℤ y +ℤ pos r ≡ z →
      HasParts K floors g pieces x z l →
      HasParts K floors f bounds x y (times (plus (number K r) l) w)
  coarse_parts g pieces order x z y l r r_low split p =
      let Q = number K f.order in
      let N = number K r in
      let Y = whole K y in
      let u = plus N l in
      let fine : times (times Q M) x ≡ plus (times M Y) u =
      ap (λ t. times t x) (sym (number_times K f.order m))
      ∙ ap (λ n. times (number K n) x) (sym order) ∙ p.is
      ∙ ap (λ t. plus t l) (ap (whole K) (sym split) ∙ whole_plus K (pos m *ℤ y) (pos r)
      ∙ ap (λ t. plus t N) (whole_times K (pos m) y))
      ∙ ring K (M ∷ Y ∷ N ∷ l ∷ []) (var 0 ⊗ var 1 ⊕ var 2 ⊕ var 3)
      (var 0 ⊗ var 1 ⊕ (var 2 ⊕ var 3)) refl in
      record {
        is =
            sym (K.times_one (times Q x)) ∙ ap (times (times Q x)) (sym M_is)
            ∙ ring K (Q ∷ x ∷ M ∷ w ∷ []) (var 0 ⊗ var 1 ⊗ (var 2 ⊗ var 3))
            (var 0 ⊗ var 2 ⊗ var 1 ⊗ var 3) refl
            ∙ ap (λ t. times t w) fine
            ∙ ring K (M ∷ Y ∷ u ∷ w ∷ []) ((var 0 ⊗ var 1 ⊕ var 2) ⊗ var 3)
            (var 1 ⊗ (var 0 ⊗ var 3) ⊕ var 2 ⊗ var 3) refl
            ∙ ap (λ t. plus (times Y t) (times u w)) M_is
            ∙ ap (λ t. plus t (times u w)) (K.times_one Y);
        low = K.times_keeps u w
            (by_two K (N ∷ l ∷ []) nil (var 0 ⊕ var 1) nil (var 0) nil (var 1) (number_low K r)
            p.low refl)
            (inverse_low K M (number_low K m) (number_some K m some));
        high = λ high.
            let most : AtMost K M u =
            subst₂ (AtMost K) (ring K (M ∷ []) (unit ⊗ var 0) (var 0) refl)
            (ring K (u ∷ w ∷ M ∷ []) (var 0 ⊗ var 1 ⊗ var 2) (var 0 ⊗ (var 2 ⊗ var 1)) refl
            ∙ ap (times u) M_is ∙ K.times_one u)
            (times_le K e (times u w) M (number_low K m) high) in
            let next : AtMost K (plus N e) M =
            subst (λ t. AtMost K t M) (number_next K r) (number_mono K (r + 1) m (omega arith)) in
            p.high (by_two K (N ∷ l ∷ M ∷ []) unit (var 1) (var 0 ⊕ unit) (var 2) (var 2)
            (var 0 ⊕ var 1) next most refl);
      }

  -- ---- scales

  module _ (c : ℕ) (c_some : 0 < c) where
    scaled : (V : R) →
        times (times (number K (2 * c)) (times M V)) (K.inverse (number K (c * (f.scale * m))))
        ≡ plus (times V (K.inverse (number K f.scale))) (times V (K.inverse (number K f.scale)))
    scaled V =
        let C = number K c in
        let S = number K f.scale in
        let n = c * (f.scale * m) in
        let y = K.inverse (number K n) in
        let Y = K.inverse S in
        let scale_low = bounds.scale_low in
        let s_some : 0 < f.scale = omega arith in
        let S_is : times S Y ≡ e = K.times_inverse S (number_some K f.scale s_some) in
        let whole_scale : number K n ≡ times C (times S M) =
        number_times K c (f.scale * m) ∙ ap (times C) (number_times K f.scale m) in
        let y_is : times (times C (times S M)) y ≡ e =
        ap (λ t. times t y) (sym whole_scale)
        ∙ K.times_inverse (number K n) (number_some K n (mul-pos c_some (mul-pos s_some some))) in
        ap (λ t. times (times t (times M V)) y) (number_times K 2 c)
        ∙ ring K (C ∷ M ∷ V ∷ y ∷ []) (((nil ⊕ unit) ⊕ unit) ⊗ var 0 ⊗ (var 1 ⊗ var 2) ⊗ var 3)
        ((unit ⊕ unit) ⊗ var 2 ⊗ (var 0 ⊗ var 1 ⊗ var 3) ⊗ unit) refl
        ∙ ap (times (times (times (plus e e) V) (times (times C M) y))) (sym S_is)
        ∙ ring K (C ∷ M ∷ V ∷ y ∷ S ∷ Y ∷ [])
        ((unit ⊕ unit) ⊗ var 2 ⊗ (var 0 ⊗ var 1 ⊗ var 3) ⊗ (var 4 ⊗ var 5))
        ((unit ⊕ unit) ⊗ var 2 ⊗ var 5 ⊗ (var 0 ⊗ (var 4 ⊗ var 1) ⊗ var 3)) refl
        ∙ ap (times (times (times (plus e e) V) Y)) y_is
        ∙ ring K (V ∷ Y ∷ []) ((unit ⊕ unit) ⊗ var 0 ⊗ var 1 ⊗ unit)
        (var 0 ⊗ var 1 ⊕ var 0 ⊗ var 1) refl

    -- half the sum of two functions whose data average to f is f
    pub average_everywhere : (g h : FunctionData) → IsMinimalOver f m c g → IsMinimalOver f m c h →
        AverageToFunction f m c g h → (x : R) →
        plus (real_function K floors g x) (real_function K floors h x)
        ≡ plus (real_function K floors f x) (real_function K floors f x)
    average_everywhere g h first second average x =
        let g_pieces = pieces_over f m c g bounds some c_some first in
        let h_pieces = pieces_over f m c h bounds some c_some second in
        let z = floors.floor (times (number K g.order) x) in
        let l = plus (times (number K g.order) x) (negative (whole K z)) in
        let p : HasParts K floors g g_pieces x z l = some_parts K floors g g_pieces x in
        let p' : HasParts K floors h h_pieces x z l = record {
          is = ap (λ n. times (number K n) x) (second.order ∙ sym first.order) ∙ p.is;
          low = p.low;
          high = p.high;
        } in
        let a = index_of z g.order in
        let A = a / m in
        let r = a % m in
        let r_low : r < m = mod-lt a some in
        let split : A * m + r ≡ a = div-add-mod' a m in
        let i : IsIndex g.order z a = index_is z g.order (order_some K floors g g_pieces) in
        let on_fine = subst (λ n. IsIndex n z a) first.order i in
        let i_first : IsIndex g.order z (A * m + r) = subst (IsIndex g.order z) (sym split) i in
        let i_second : IsIndex h.order z (A * m + r) =
        subst₂ (λ n b. IsIndex n z b) (first.order ∙ sym second.order) (sym split) i in
        let coarse = coarse_index z a on_fine A r (sym split) in
        let y = coarse.0 in
        let L = times (plus (number K r) l) w in
        let V = value_between K f A L in
        let v = K.inverse (number K (c * (f.scale * m))) in
        let inverse_of = λ (n : ℕ). K.inverse (number K n) in
        ap₂ plus
        (value_is K floors g g_pieces x z l (A * m + r) p i_first
        ∙ ap (λ n. times (value_between K g (A * m + r) l) (inverse_of n)) first.scale)
        (value_is K floors h h_pieces x z l (A * m + r) p' i_second
        ∙ ap (λ n. times (value_between K h (A * m + r) l) (inverse_of n)) second.scale)
        ∙ ring K (value_between K g (A * m + r) l ∷ value_between K h (A * m + r) l ∷ v ∷ [])
        (var 0 ⊗ var 2 ⊕ var 1 ⊗ var 2) ((var 0 ⊕ var 1) ⊗ var 2) refl
        ∙ ap (λ t. times t v)
        (sum_between K f g h m c average some A r (m - (r + 1)) l (omega arith) p.low)
        ∙ scaled V
        ∙ ap (λ t. plus t t)
        (sym (value_is K floors f bounds x y L A
        (coarse_parts g g_pieces first.order x z y l r r_low coarse.1 p) coarse.2))
