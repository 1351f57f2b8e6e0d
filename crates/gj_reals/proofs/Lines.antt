-- A continuous function on the lines between its values, and what is additive where it is.
use Rattle.std.proofs.Common.{◌≡◌, ℕ, ◌+◌, ◌%◌, pos, ⊎_elim, [], ◌∷◌, refl, sym, ap, ap₂, ◌∙◌, arith}
use Rattle.gj_lemmas.proofs.Quotients.{same_at_remainder}
use Rattle.gj_shape.specs.Additive.{IsTight, IsAdditive}
use Rattle.gj_shape.specs.FunctionData.{FunctionData, IsWithinBounds, IsContinuous, at}
use Rattle.gj_shape.specs.declared.faces.FaceKind.TheVariants.{Horizontal, Vertical, Diagonal, Lower, Upper}
use Rattle.gj_shape.proofs.TableLemmas.{pieces_of}
use Rattle.gj_fields.specs.Fields.{OrderedField, HasFloor, AtMost, number, whole}
use Rattle.gj_fields.proofs.Ring.{ring}
use Rattle.gj_fields.proofs.Ring.Term.{var, nil, unit, neg, ◌⊕◌, ◌⊗◌}
use Rattle.gj_fields.proofs.Order.{either, le_refl, zero_le_one, number_plus, by_one, by_two}
use Rattle.gj_fields.proofs.Wholes.{whole_plus}
use Rattle.gj_fields.proofs.Interval.{IsInside, HaveSlope, triangle_has_slope}
use Rattle.gj_reals.specs.RealFunctions.{real_function}
use Rattle.gj_reals.proofs.Places.{index_whole}
use Rattle.gj_reals.proofs.Pieces.{between_zero, between_some, is_not}
use Rattle.gj_reals.proofs.AtReals.{value_is, number_some, inverse_at, order_some}

module _ {R : Type 0} (K : OrderedField R) (floors : HasFloor K) (f : FunctionData)
    (bounds : IsWithinBounds f) (continuous : IsContinuous f) where
  open K use {plus, times, zero as o, one as e, negative}

  abbrev q : R
  q = number K f.order

  abbrev v : R → R
  v = real_function K floors f

  abbrev D : R
  D = number K f.scale

  abbrev pub Value : ℕ → R
  Value a = whole K (at f.value a)

  -- the point (a + l)/order
  abbrev pub point : ℕ → R → R
  point a l = times (plus (number K a) l) (K.inverse q)

  abbrev pub line : ℕ → R → R
  line a l = plus (times (plus e (negative l)) (Value a)) (times l (Value (a + 1)))

  order_point : (a : ℕ) (l : R) → times q (point a l) ≡ plus (number K a) l
  order_point a l =
      inverse_at K q (plus (number K a) l)
      (number_some K f.order (order_some K floors f (pieces_of bounds)))

  below_one : (a : ℕ) (l : R) → AtMost K o l → (AtMost K e l → ⊥) →
      v (point a l) ≡ times (line a l) (K.inverse D)
  below_one a l low high =
      value_is K floors f (pieces_of bounds) (point a l) (pos a) l a
      (record { is = order_point a l; low = low; high = high }) (index_whole f.order a)
      ∙ ap (λ w. times w (K.inverse D))
      (⊎_elim
      (λ none.
      let l_zero : l ≡ o = K.antisymmetric l o none low in
      between_zero K _ _ _ l none
      ∙ ring K (Value a ∷ Value (a + 1) ∷ []) (var 0) ((unit ⊕ neg nil) ⊗ var 0 ⊕ nil ⊗ var 1) refl
      ∙ ap (line a) (sym l_zero))
      (λ some. between_some K _ _ _ l some
      ∙ ap₂ (λ s n. plus (times (plus e (negative l)) (whole K (at s a)))
      (times l (whole K (at n (a + 1))))) continuous.1 continuous.0)
      (either (K.at_most l o)))

  pub next_point : (a : ℕ) (l : R) → point a (plus e l) ≡ point (a + 1) l
  next_point a l =
      ap (λ w. times w (K.inverse q))
      (ring K (number K a ∷ l ∷ []) (var 0 ⊕ (unit ⊕ var 1)) ((var 0 ⊕ (nil ⊕ unit)) ⊕ var 1) refl
      ∙ ap (λ w. plus w l) (sym (number_plus K a 1)))

  pub on_line : (a : ℕ) (l : R) → IsInside K floors l →
      v (point a l) ≡ times (line a l) (K.inverse D)
  on_line a l inside =
      ⊎_elim
      (λ last.
      let l_one : l ≡ e = K.antisymmetric l e inside.high last in
      ap (λ t. v (point a t)) (l_one ∙ sym (K.plus_zero e)) ∙ ap v (next_point a o)
      ∙ below_one (a + 1) o (le_refl K o) (Rattle.gj_fields.proofs.Wholes.not_one_le_zero K)
      ∙ ap (λ w. times w (K.inverse D))
      (ring K (Value a ∷ Value (a + 1) ∷ Value (a + 1 + 1) ∷ [])
      ((unit ⊕ neg nil) ⊗ var 1 ⊕ nil ⊗ var 2) ((unit ⊕ neg unit) ⊗ var 0 ⊕ unit ⊗ var 1) refl
      ∙ ap (line a) (sym l_one)))
      (λ some. below_one a l inside.low (is_not K e l some))
      (either (K.at_most e l))

  pub tight_values : (a b : ℕ) → IsTight f a b → plus (Value a) (Value b) ≡ Value (a + b)
  tight_values a b h = sym (whole_plus K (at f.value a) (at f.value b)) ∙ ap (whole K) h

  -- ---- what has the period 1 and is additive where the function is

  pub record FollowsTight (d : R → R) : Type 0 where
    pub has_period : (x : R) → d (plus x e) ≡ d x
    pub additive : (x y : R) → plus (v x) (v y) ≡ v (plus x y) → plus (d x) (d y) ≡ d (plus x y)
    pub upper : (x : R) → AtMost K (d x) e
    pub lower : (x : R) → AtMost K (negative (d x)) e

  module _ (d : R → R) (follows : FollowsTight d) where
    pub additive_at : (a b c : ℕ) (l m u : R) → IsInside K floors l → IsInside K floors m →
        IsInside K floors u →
        plus (point a l) (point b m) ≡ point c u → plus (line a l) (line b m) ≡ line c u →
        plus (d (point a l)) (d (point b m)) ≡ d (point c u)
    additive_at a b c l m u l_in m_in u_in place lines =
        follows.additive (point a l) (point b m)
        (ap₂ plus (on_line a l l_in) (on_line b m m_in)
        ∙ ring K (line a l ∷ line b m ∷ K.inverse D ∷ []) (var 0 ⊗ var 2 ⊕ var 1 ⊗ var 2)
        ((var 0 ⊕ var 1) ⊗ var 2) refl
        ∙ ap (λ w. times w (K.inverse D)) lines ∙ sym (on_line c u u_in) ∙ ap v (sym place))
        ∙ ap d place

    turned : (i : ℕ) (l : R) → d (point (i + f.order) l) ≡ d (point i l)
    turned i l =
        ap (λ w. d (times (plus w l) (K.inverse q))) (number_plus K i f.order)
        ∙ ap d (ring K (number K i ∷ l ∷ q ∷ K.inverse q ∷ []) (((var 0 ⊕ var 2) ⊕ var 1) ⊗ var 3)
        ((var 0 ⊕ var 1) ⊗ var 3 ⊕ var 2 ⊗ var 3) refl
        ∙ ap (plus (point i l)) (K.times_inverse q
        (number_some K f.order (order_some K floors f (pieces_of bounds)))))
        ∙ follows.has_period (point i l)

    pub at_remainder : (i j : ℕ) (l : R) → i % f.order ≡ j % f.order → d (point i l) ≡ d (point j l)
    at_remainder i j l e' = same_at_remainder (λ k. d (point k l)) f.order (λ k. turned k l) i j e'

    -- the sum of two points
    pub sum_points : (a b : ℕ) (l m : R) → plus (point a l) (point b m) ≡ point (a + b) (plus l m)
    sum_points a b l m =
        ring K (number K a ∷ number K b ∷ l ∷ m ∷ K.inverse q ∷ [])
        ((var 0 ⊕ var 2) ⊗ var 4 ⊕ (var 1 ⊕ var 3) ⊗ var 4)
        (((var 0 ⊕ var 1) ⊕ (var 2 ⊕ var 3)) ⊗ var 4) refl
        ∙ ap (λ w. times (plus w (plus l m)) (K.inverse q)) (sym (number_plus K a b))

    o_in : IsInside K floors o
    o_in = record { low = le_refl K o; high = zero_le_one K }

    e_in : IsInside K floors e
    e_in = record { low = zero_le_one K; high = le_refl K e }

    pub rest_in : (l : R) → IsInside K floors l → IsInside K floors (plus e (negative l))
    rest_in l h = record {
      low = by_one K (l ∷ []) nil (unit ⊕ neg (var 0)) (var 0) unit h.high refl;
      high = by_one K (l ∷ []) (unit ⊕ neg (var 0)) unit nil (var 0) h.low refl;
    }

    -- ---- slopes on intervals

    unfoldable pub HasSlope : ℕ → Type 0
    HasSlope i = (slope : R) × HaveSlope K floors (λ l. d (point i l)) slope

    -- parts of a sum that is at most 1
    inside_sum : (s t : R) → AtMost K o s → AtMost K o t → AtMost K (plus s t) e →
        IsInside K floors s × IsInside K floors t × IsInside K floors (plus s t)
    inside_sum s t s_low t_low fits = (
      record {
        low = s_low;
        high = by_two K (s ∷ t ∷ []) (var 0) unit nil (var 1) (var 0 ⊕ var 1)
            unit t_low fits refl;
      },
      record {
        low = t_low;
        high = by_two K (s ∷ t ∷ []) (var 1) unit nil (var 0) (var 0 ⊕ var 1)
            unit s_low fits refl;
      },
      record {
        low = by_two K (s ∷ t ∷ []) nil (var 0 ⊕ var 1) nil (var 0) nil (var 1) s_low t_low
            refl;
        high = fits;
      },
    )

    pub on_lower : (a b : ℕ) → IsAdditive (IsTight f) Lower a b → HasSlope a × HasSlope b
        × HasSlope (a + b)
    unfolding HasSlope
    on_lower a b h =
        let first = tight_values a b (h 0 (0, 0) (omega arith)) in
        let second = tight_values (a + 1) b (h 1 (0, 0) (omega arith))
        ∙ ap Value (let s : a + 1 + b ≡ a + b + 1 = omega arith in s) in
        let third = tight_values a (b + 1) (h 2 (0, 0) (omega arith))
        ∙ ap Value (let s : a + (b + 1) ≡ a + b + 1 = omega arith in s) in
        let found = triangle_has_slope K floors (λ l. d (point a l)) (λ l. d (point b l))
        (λ l. d (point (a + b) l)) e
        (λ s t s_low t_low fits.
        let inside = inside_sum s t s_low t_low fits in
        additive_at a b (a + b) s t (plus s t) inside.0 inside.1 inside.2 (sum_points a b s t)
        (ring K (s ∷ t ∷ Value a ∷ Value (a + 1) ∷ Value b ∷ Value (b + 1) ∷ [])
        ((unit ⊕ neg (var 0)) ⊗ var 2 ⊕ var 0 ⊗ var 3
        ⊕ ((unit ⊕ neg (var 1)) ⊗ var 4 ⊕ var 1 ⊗ var 5))
        ((unit ⊕ neg (var 0 ⊕ var 1)) ⊗ (var 2 ⊕ var 4)
        ⊕ (var 0 ⊗ (var 3 ⊕ var 4) ⊕ var 1 ⊗ (var 2 ⊕ var 5))) refl
        ∙ ap₂ (λ x y. plus (times (plus e (negative (plus s t))) x) y) first
        (ap₂ (λ x y. plus (times s x) (times t y)) second third)
        ∙ ring K (s ∷ t ∷ Value (a + b) ∷ Value (a + b + 1) ∷ [])
        ((unit ⊕ neg (var 0 ⊕ var 1)) ⊗ var 2 ⊕ (var 0 ⊗ var 3 ⊕ var 1 ⊗ var 3))
        ((unit ⊕ neg (var 0 ⊕ var 1)) ⊗ var 2 ⊕ (var 0 ⊕ var 1) ⊗ var 3) refl))
        (λ s s_in. follows.upper (point (a + b) s)) (λ s s_in. follows.lower (point (a + b) s)) in
        ((found.0, found.1), (found.0, found.2), (found.0, found.3))

    -- the slope of what runs back
    turned_slope : (i : ℕ) (slope : R) →
        HaveSlope K floors (λ l. d (point i (plus e (negative l)))) slope → HasSlope i
    unfolding HasSlope
    turned_slope i slope h = (
      negative slope,
      record {
        is = λ s s_in.
            let back = ring K (s ∷ []) (var 0) (unit ⊕ neg (unit ⊕ neg (var 0))) refl in
            let zero_back = ring K [] nil (unit ⊕ neg unit) refl in
            let g = λ (l : R). d (point i (plus e (negative l))) in
            ap (λ t. d (point i t)) back ∙ h.is (plus e (negative s)) (rest_in s s_in)
            ∙ ring K (g o ∷ s ∷ slope ∷ []) (var 0 ⊕ (unit ⊕ neg (var 1)) ⊗ var 2)
            ((var 0 ⊕ unit ⊗ var 2) ⊕ var 1 ⊗ neg (var 2)) refl
            ∙ ap (λ w. plus w (times s (negative slope))) (sym (h.is e e_in)
            ∙ ap (λ t. d (point i t)) (sym zero_back));
      },
    )

    pub on_upper : (a b : ℕ) → IsAdditive (IsTight f) Upper a b → HasSlope a × HasSlope b
        × HasSlope (a + b + 1)
    on_upper a b h =
        let c = a + b + 1 in
        let first = tight_values (a + 1) b (h 0 (0, 0) (omega arith))
        ∙ ap Value (let s : a + 1 + b ≡ c = omega arith in s) in
        let second = tight_values a (b + 1) (h 1 (0, 0) (omega arith))
        ∙ ap Value (let s : a + (b + 1) ≡ c = omega arith in s) in
        let third = tight_values (a + 1) (b + 1) (h 2 (0, 0) (omega arith))
        ∙ ap Value (let s : a + 1 + (b + 1) ≡ c + 1 = omega arith in s) in
        let back = λ (l : R). plus e (negative l) in
        let found = triangle_has_slope K floors (λ l. d (point a (back l)))
        (λ l. d (point b (back l))) (λ l. d (point c (back l))) e
        (λ s t s_low t_low fits.
        let inside = inside_sum s t s_low t_low fits in
        additive_at a b c (back s) (back t) (back (plus s t)) (rest_in s inside.0)
        (rest_in t inside.1) (rest_in (plus s t) inside.2)
        (sum_points a b (back s) (back t)
        ∙ ap (point (a + b)) (ring K (s ∷ t ∷ []) ((unit ⊕ neg (var 0)) ⊕ (unit ⊕ neg (var 1)))
        (unit ⊕ (unit ⊕ neg (var 0 ⊕ var 1))) refl)
        ∙ next_point (a + b) (back (plus s t)))
        (ring K (s ∷ t ∷ Value a ∷ Value (a + 1) ∷ Value b ∷ Value (b + 1) ∷ [])
        ((unit ⊕ neg (unit ⊕ neg (var 0))) ⊗ var 2 ⊕ (unit ⊕ neg (var 0)) ⊗ var 3
        ⊕ ((unit ⊕ neg (unit ⊕ neg (var 1))) ⊗ var 4 ⊕ (unit ⊕ neg (var 1)) ⊗ var 5))
        (var 1 ⊗ (var 3 ⊕ var 4) ⊕ (var 0 ⊗ (var 2 ⊕ var 5)
        ⊕ (unit ⊕ neg (var 0 ⊕ var 1)) ⊗ (var 3 ⊕ var 5))) refl
        ∙ ap₂ (λ x y. plus (times t x) y) first
        (ap₂ (λ x y. plus (times s x) (times (plus e (negative (plus s t))) y)) second third)
        ∙ ring K (s ∷ t ∷ Value c ∷ Value (c + 1) ∷ [])
        (var 1 ⊗ var 2 ⊕ (var 0 ⊗ var 2 ⊕ (unit ⊕ neg (var 0 ⊕ var 1)) ⊗ var 3))
        ((unit ⊕ neg (unit ⊕ neg (var 0 ⊕ var 1))) ⊗ var 2 ⊕ (unit ⊕ neg (var 0 ⊕ var 1)) ⊗ var 3)
        refl))
        (λ s s_in. follows.upper (point c (back s))) (λ s s_in. follows.lower (point c (back s))) in (
          turned_slope a found.0 found.1,
          turned_slope b found.0 found.2,
          turned_slope c found.0
              found.3,
        )

    -- ---- edges

    -- what differs by a fixed number has the same slope
    shifted : (i j : ℕ) (w : R) → ((l : R) → IsInside K floors l →
        plus (d (point i l)) w ≡ d (point j l)) → HasSlope i → HasSlope j
    unfolding HasSlope
    shifted i j w same (slope, h) = (
      slope,
      record {
        is = λ s s_in.
            sym (same s s_in) ∙ ap (λ x. plus x w) (h.is s s_in)
            ∙ ring K (d (point i o) ∷ s ∷ slope ∷ w ∷ []) (var 0 ⊕ var 1 ⊗ var 2 ⊕ var 3)
            (var 0 ⊕ var 3 ⊕ var 1 ⊗ var 2) refl
            ∙ ap (λ x. plus x (times s slope)) (same o o_in);
      },
    )

    shifted_back : (i j : ℕ) (w : R) →
        ((l : R) → IsInside K floors l → plus (d (point i l)) w ≡ d (point j l)) → HasSlope j →
        HasSlope i
    shifted_back i j w same =
        shifted j i (negative w) (λ l l_in. ap (λ x. plus x (negative w)) (sym (same l l_in))
        ∙ ring K (d (point i l) ∷ w ∷ []) (var 0 ⊕ var 1 ⊕ neg (var 1)) (var 0) refl)

    -- the edge along which the first or the second runs
    edge_line : (a b : ℕ) (l : R) → plus (Value a) (Value b) ≡ Value (a + b) →
        plus (Value (a + 1)) (Value b) ≡ Value (a + b + 1) →
        plus (line a l) (line b o) ≡ line (a + b) l
    edge_line a b l first second =
        ring K (l ∷ Value a ∷ Value (a + 1) ∷ Value b ∷ Value (b + 1) ∷ [])
        ((unit ⊕ neg (var 0)) ⊗ var 1 ⊕ var 0 ⊗ var 2 ⊕ ((unit ⊕ neg nil) ⊗ var 3 ⊕ nil ⊗ var 4))
        ((unit ⊕ neg (var 0)) ⊗ (var 1 ⊕ var 3) ⊕ var 0 ⊗ (var 2 ⊕ var 3)) refl
        ∙ ap₂ (λ x y. plus (times (plus e (negative l)) x) (times l y)) first second

    pub on_horizontal : (a b : ℕ) → IsAdditive (IsTight f) Horizontal a b → (l : R) →
        IsInside K floors l →
        plus (d (point a l)) (d (point b o)) ≡ d (point (a + b) l)
    on_horizontal a b h l l_in =
        let first = tight_values a b (h 0 (0, 0) (omega arith)) in
        let second = tight_values (a + 1) b (h 1 (0, 0) (omega arith))
        ∙ ap Value (let s : a + 1 + b ≡ a + b + 1 = omega arith in s) in
        additive_at a b (a + b) l o l l_in o_in l_in
        (sum_points a b l o ∙ ap (point (a + b)) (K.plus_zero l)) (edge_line a b l first second)

    pub on_vertical : (a b : ℕ) → IsAdditive (IsTight f) Vertical a b → (l : R) →
        IsInside K floors l →
        plus (d (point b l)) (d (point a o)) ≡ d (point (a + b) l)
    on_vertical a b h l l_in =
        let first = K.plus_commutes (Value b) (Value a)
        ∙ tight_values a b (h 0 (0, 0) (omega arith)) ∙ ap Value (let s : a + b ≡ b + a =
        omega arith in s) in
        let second = K.plus_commutes (Value (b + 1)) (Value a)
        ∙ tight_values a (b + 1) (h 1 (0, 0) (omega arith))
        ∙ ap Value (let s : a + (b + 1) ≡ b + a + 1 = omega arith in s) in
        let turn : b + a ≡ a + b = omega arith in
        additive_at b a (b + a) l o l l_in o_in l_in
        (sum_points b a l o ∙ ap (point (b + a)) (K.plus_zero l)) (edge_line b a l first second)
        ∙ ap (λ n. d (point n l)) turn

    pub on_diagonal : (a b : ℕ) → IsAdditive (IsTight f) Diagonal a b → (l : R) →
        IsInside K floors l →
        plus (d (point a l)) (d (point b (plus e (negative l)))) ≡ d (point (a + b) e)
    on_diagonal a b h l l_in =
        let first = tight_values (a + 1) b (h 0 (0, 0) (omega arith))
        ∙ ap Value (let s : a + 1 + b ≡ a + b + 1 = omega arith in s) in
        let second = tight_values a (b + 1) (h 1 (0, 0) (omega arith))
        ∙ ap Value (let s : a + (b + 1) ≡ a + b + 1 = omega arith in s) in
        additive_at a b (a + b) l (plus e (negative l)) e l_in (rest_in l l_in) e_in
        (sum_points a b l (plus e (negative l))
        ∙ ap (point (a + b)) (ring K (l ∷ []) (var 0 ⊕ (unit ⊕ neg (var 0))) unit refl))
        (ring K (l ∷ Value a ∷ Value (a + 1) ∷ Value b ∷ Value (b + 1) ∷ [])
        ((unit ⊕ neg (var 0)) ⊗ var 1 ⊕ var 0 ⊗ var 2
        ⊕ ((unit ⊕ neg (unit ⊕ neg (var 0))) ⊗ var 3 ⊕ (unit ⊕ neg (var 0)) ⊗ var 4))
        (var 0 ⊗ (var 2 ⊕ var 3) ⊕ (unit ⊕ neg (var 0)) ⊗ (var 1 ⊕ var 4)) refl
        ∙ ap₂ (λ x y. plus (times l x) (times (plus e (negative l)) y)) first second
        ∙ ring K (l ∷ Value (a + b) ∷ Value (a + b + 1) ∷ [])
        (var 0 ⊗ var 2 ⊕ (unit ⊕ neg (var 0)) ⊗ var 2) ((unit ⊕ neg unit) ⊗ var 1 ⊕ unit ⊗ var 2)
        refl)

    pub along_horizontal : (a b : ℕ) → IsAdditive (IsTight f) Horizontal a b →
        (HasSlope a → HasSlope (a + b)) × (HasSlope (a + b) → HasSlope a)
    along_horizontal a b h = (
      shifted a (a + b) (d (point b o)) (on_horizontal a b h),
      shifted_back a (a + b)
          (d (point b o)) (on_horizontal a b h),
    )

    pub along_vertical : (a b : ℕ) → IsAdditive (IsTight f) Vertical a b →
        (HasSlope b → HasSlope (a + b)) × (HasSlope (a + b) → HasSlope b)
    along_vertical a b h = (
      shifted b (a + b) (d (point a o)) (on_vertical a b h),
      shifted_back b (a + b)
          (d (point a o)) (on_vertical a b h),
    )

    against : (i j : ℕ) (w : R) → ((l : R) → IsInside K floors l →
        plus (d (point i l)) (d (point j (plus e (negative l)))) ≡ w) →
        HasSlope i → HasSlope j
    unfolding HasSlope
    against i j w same (slope, h) =
        turned_slope j (negative slope) (record {
          is = λ s s_in.
              let g = λ (l : R). d (point j (plus e (negative l))) in
              let alone = λ (l : R) (l_in : IsInside K floors l).
              ring K (d (point i l) ∷ g l ∷ []) (var 1) (var 0 ⊕ var 1 ⊕ neg (var 0)) refl
              ∙ ap (λ x. plus x (negative (d (point i l)))) (same l l_in) in
              alone s s_in ∙ ap (λ x. plus w (negative x)) (h.is s s_in)
              ∙ ring K (w ∷ d (point i o) ∷ s ∷ slope ∷ []) (var 0 ⊕ neg (var 1 ⊕ var 2 ⊗ var 3))
              (var 0 ⊕ neg (var 1) ⊕ var 2 ⊗ neg (var 3)) refl
              ∙ ap (λ x. plus x (times s (negative slope))) (sym (alone o o_in));
        })

    pub along_diagonal : (a b : ℕ) → IsAdditive (IsTight f) Diagonal a b → (HasSlope a → HasSlope b)
        × (HasSlope b → HasSlope a)
    along_diagonal a b h = (
      against a b (d (point (a + b) e)) (on_diagonal a b h),
      against b a (d (point (a + b) e)) (λ l l_in.
          ap (λ t. plus (d (point b t)) (d (point a (plus e (negative l)))))
          (ring K (l ∷ []) (var 0) (unit ⊕ neg (unit ⊕ neg (var 0))) refl)
          ∙ K.plus_commutes _ _ ∙ on_diagonal a b h (plus e (negative l)) (rest_in l l_in)),
    )

    pub slope_modulo : (i j : ℕ) → i % f.order ≡ j % f.order → HasSlope i → HasSlope j
    unfolding HasSlope
    slope_modulo i j e' (slope, h) = (
      slope,
      record {
        is = λ s s_in. sym (at_remainder i j s e') ∙ h.is s s_in
            ∙ ap (λ x. plus x (times s slope)) (at_remainder i j o e');
      },
    )
