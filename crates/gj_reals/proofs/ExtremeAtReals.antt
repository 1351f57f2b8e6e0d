-- A continuous extreme function is extreme among the valid functions on the numbers of a field with
-- floors.
use Rattle.std.proofs.Common.{◌≡◌, ◌≢◌, ℕ, zero, ◌+◌, ◌*◌, ◌%◌, ◌<◌, ◌≤◌, pos, true, false, ltb, ◌⊎◌, inl, inr, ⊎_elim, [], ◌∷◌, refl, sym, ap, ap₂, ◌∙◌, mul-pos, arith}
use Rattle.std.proofs.Math.Nat.{mod-lt, mod-mod}
use Rattle.gj_shape.specs.Additive.{IsTight}
use Rattle.gj_shape.specs.Cover.{IsCovered}
use Rattle.gj_shape.specs.Extreme.{IsExtreme}
use Rattle.gj_shape.specs.FunctionData.{FunctionData, IsWithinBounds, IsContinuous}
use Rattle.gj_shape.specs.Table.{table, IsMinimal}
use Rattle.gj_shape.proofs.TableLemmas.{pieces_of}
use Rattle.gj_theory.proofs.DecidingGrid.{HasNoPerturbation, none_from_extreme, not_uncovered}
use Rattle.gj_fields.specs.Fields.{OrderedField, HasFloor, AtMost, number, whole}
use Rattle.gj_fields.specs.Functions.{IsSamePoint, IsMinimalAmong, IsExtremeAmong, HasRules}
use Rattle.gj_fields.proofs.Ring.{ring, cancel}
use Rattle.gj_fields.proofs.Ring.Term.{var, nil, unit, neg, ◌⊕◌, ◌⊗◌}
use Rattle.gj_fields.proofs.Order.{either, le_refl, le_of_eq, le_of_not, zero_le_one, number_plus, by_two, by_three}
use Rattle.gj_fields.proofs.Points.{at_same_point}
use Rattle.gj_fields.proofs.FromRules.{rules_minimal}
use Rattle.gj_fields.proofs.Floors.{rules_of_minimal}
use Rattle.gj_fields.proofs.Averages.{average_minimal}
use Rattle.gj_fields.proofs.Interval.{IsInside}
use Rattle.gj_fields.proofs.Wholes.{whole_plus, number_times}
use Rattle.gj_reals.specs.RealFunctions.{index_of, real_function, real_place}
use Rattle.gj_reals.proofs.Places.{index_is, index_low}
use Rattle.gj_reals.proofs.AtReals.{HasParts, some_parts, number_some, inverse_at, order_some, rules_at_reals}
use Rattle.gj_reals.proofs.Lines.{FollowsTight, point, next_point, sum_points, at_remainder, tight_values, Value, additive_at}
use Rattle.gj_reals.proofs.Slopes.{slope_on_covered}
use Rattle.gj_reals.proofs.GridSystem.{only_zero_on_grid}

module _ {R : Type 0} (K : OrderedField R) (floors : HasFloor K) (f : FunctionData)
    (bounds : IsWithinBounds f) (continuous : IsContinuous f)
    (extreme : IsExtreme f) where
  open K use {plus, times, zero as o, one as e, negative}

  abbrev q : R
  q = number K f.order

  abbrev v : R → R
  v = real_function K floors f

  abbrev place : R
  place = real_place K f

  minimal : IsMinimal f
  minimal m some = (extreme m some).minimal

  no_perturbation : (m : ℕ) → 0 < m → HasNoPerturbation (table f m) (f.order * m) (f.place * m)
  no_perturbation m some =
      none_from_extreme (table f m) (f.order * m) (f.place * m) (f.scale * m)
      (mul-pos (order_some K floors f (pieces_of bounds)) some) (extreme m some)

  pub minimal_there : IsMinimalAmong K v place
  minimal_there = rules_minimal K v place (rules_at_reals K floors f (pieces_of bounds) minimal)

  at_most_one : (a : R → R) → HasRules K a place → (x : R) → AtMost K (a x) e
  at_most_one a h x =
      let y = plus place (negative x) in
      by_two K (a x ∷ a y ∷ []) (var 0) unit nil (var 1) (var 0 ⊕ var 1) unit
      (h.function.nonnegative y)
      (le_of_eq K (plus (a x) (a y)) e (h.symmetric x)) refl

  one_at_place : (a : R → R) → HasRules K a place → a place ≡ e
  one_at_place a h =
      ring K (a place ∷ []) (var 0) (nil ⊕ var 0) refl
      ∙ ap₂ plus (sym h.zero_at_zero) (ap a (ring K (place ∷ []) (var 0) (var 0 ⊕ neg nil) refl))
      ∙ h.symmetric o

  -- a number is another or not
  same_or_apart : (x y : R) → (x ≡ y) ⊎ (x ≢ y)
  same_or_apart x y =
      ⊎_elim
      (λ first. ⊎_elim (λ second. inl (K.antisymmetric x y first second))
      (λ other. inr (λ same. let flat : true ≡ false = sym (le_of_eq K y x (sym same)) ∙ other in
      cc))
      (either (K.at_most y x)))
      (λ other. inr (λ same. let flat : true ≡ false = sym (le_of_eq K x y same) ∙ other in cc))
      (either (K.at_most x y))

  module _ (a b : R → R) (a_rules : HasRules K a place) (b_rules : HasRules K b place)
      (average : (x : R) → plus (a x) (b x) ≡ plus (v x) (v x)) where
    d : R → R
    d x = plus (a x) (negative (b x))

    additive_there : (x y : R) → plus (v x) (v y) ≡ v (plus x y) → plus (a x) (a y) ≡ a (plus x y)
    additive_there x y tight =
        let s = plus x y in
        K.antisymmetric (plus (a x) (a y)) (a s)
        (by_three K (a x ∷ a y ∷ b x ∷ b y ∷ a s ∷ b s ∷ []) (var 0 ⊕ var 1) (var 4)
        (var 5) (var 2 ⊕ var 3)
        (var 0 ⊕ var 2 ⊕ (var 1 ⊕ var 3)) (var 4 ⊕ var 5) nil nil
        (b_rules.subadditive x y)
        (le_of_eq K _ _
        (ap₂ plus (average x) (average y)
        ∙ ring K (v x ∷ v y ∷ []) (var 0 ⊕ var 0 ⊕ (var 1 ⊕ var 1))
        ((var 0 ⊕ var 1) ⊕ (var 0 ⊕ var 1)) refl
        ∙ ap (λ w. plus w w) tight ∙ sym (average s)))
        (le_refl K o) refl)
        (a_rules.subadditive x y)

    b_additive : (x y : R) → plus (v x) (v y) ≡ v (plus x y) → plus (b x) (b y) ≡ b (plus x y)
    b_additive x y tight =
        let s = plus x y in
        cancel K (plus (b x) (b y)) (b s) (a s)
        (ap (plus (plus (b x) (b y))) (sym (additive_there x y tight))
        ∙ ring K (a x ∷ a y ∷ b x ∷ b y ∷ []) ((var 2 ⊕ var 3) ⊕ (var 0 ⊕ var 1))
        (var 0 ⊕ var 2 ⊕ (var 1 ⊕ var 3)) refl
        ∙ ap₂ plus (average x) (average y)
        ∙ ring K (v x ∷ v y ∷ []) (var 0 ⊕ var 0 ⊕ (var 1 ⊕ var 1))
        ((var 0 ⊕ var 1) ⊕ (var 0 ⊕ var 1)) refl
        ∙ ap (λ w. plus w w) tight ∙ sym (average s) ∙ K.plus_commutes (a s) (b s))

    follows : FollowsTight K floors f bounds continuous d
    unfolding d
    follows = record {
      has_period = λ x. ap₂ (λ s t. plus s (negative t)) (a_rules.function.has_period x)
          (b_rules.function.has_period x);
      additive = λ x y tight.
          ring K (a x ∷ a y ∷ b x ∷ b y ∷ []) ((var 0 ⊕ neg (var 2)) ⊕ (var 1 ⊕ neg (var 3)))
          ((var 0 ⊕ var 1) ⊕ neg (var 2 ⊕ var 3)) refl
          ∙ ap₂ (λ s t. plus s (negative t)) (additive_there x y tight) (b_additive x y tight);
      upper = λ x. by_two K (a x ∷ b x ∷ []) (var 0 ⊕ neg (var 1)) unit (var 0) unit nil (var 1)
          (at_most_one a a_rules x) (b_rules.function.nonnegative x) refl;
      lower = λ x. by_two K (a x ∷ b x ∷ []) (neg (var 0 ⊕ neg (var 1))) unit (var 1) unit nil
          (var 0) (at_most_one b b_rules x) (a_rules.function.nonnegative x) refl;
    }

    abbrev p : ℕ → R → R
    p = point K floors f bounds continuous

    turn : (i j : ℕ) (l : R) → i % f.order ≡ j % f.order → d (p i l) ≡ d (p j l)
    turn = at_remainder K floors f bounds continuous d follows

    -- ---- 0 at the multiples of 1/order

    w : ℕ → R
    w i = elim (ltb i f.order) [ true ↦ d (p i o) | false ↦ o ]

    w_low : (i : ℕ) → i < f.order → w i ≡ d (p i o)
    unfolding w
    w_low i low =
        let test : ltb i f.order ≡ true = Rattle.std.proofs.Common.lt-ltb i f.order low in
        ap (λ t. elim t as (λ _. R) [ true ↦ d (p i o) | false ↦ o ]) test

    w_high : (i : ℕ) → f.order ≤ i → w i ≡ o
    unfolding w
    w_high i high =
        let test : ltb i f.order ≡ false = Rattle.std.proofs.Common.le-ltb i f.order high in
        ap (λ t. elim t as (λ _. R) [ true ↦ d (p i o) | false ↦ o ]) test

    at_f : d (p f.place o) ≡ o
    unfolding d
    at_f =
        let same : p f.place o ≡ place =
        ap (λ t. times t (K.inverse q)) (K.plus_zero (number K f.place)) in
        ap₂ (λ s t. plus s (negative t)) (ap a same ∙ one_at_place a a_rules)
        (ap b same ∙ one_at_place b b_rules) ∙ K.plus_negative e

    o_inside : IsInside K floors o
    o_inside = record { low = le_refl K o; high = zero_le_one K }

    e_inside : IsInside K floors e
    e_inside = record { low = zero_le_one K; high = le_refl K e }

    at_tight : (i j : ℕ) → IsTight f i j → plus (d (p i o)) (d (p j o)) ≡ d (p (i + j) o)
    at_tight i j tight =
        let V = Value K floors f bounds continuous in
        additive_at K floors f bounds continuous d follows i j (i + j) o o o o_inside o_inside
        o_inside
        (sum_points K floors f bounds continuous d follows i j o o ∙ ap (p (i + j)) (K.plus_zero o))
        (ring K (V i ∷ V (i + 1) ∷ V j ∷ V (j + 1) ∷ V (i + j + 1) ∷ [])
        ((unit ⊕ neg nil) ⊗ var 0 ⊕ nil ⊗ var 1 ⊕ ((unit ⊕ neg nil) ⊗ var 2 ⊕ nil ⊗ var 3))
        ((unit ⊕ neg nil) ⊗ (var 0 ⊕ var 2) ⊕ nil ⊗ var 4) refl
        ∙ ap (λ t. plus (times (plus e (negative o)) t) (times o (V (i + j + 1))))
        (tight_values K floors f bounds continuous i j tight))

    zero_below : (i : ℕ) → w i ≡ o
    zero_below =
        only_zero_on_grid K f bounds (no_perturbation 1 (omega arith)) w w_high
        (w_low f.place bounds.place_high ∙ at_f)
        (λ i j i_low j_low tight.
        let k = (i + j) % f.order in
        ap₂ plus (w_low i i_low) (w_low j j_low) ∙ at_tight i j tight
        ∙ turn (i + j) k o (sym (mod-mod (i + j) f.order))
        ∙ sym (w_low k (mod-lt (i + j) (order_some K floors f (pieces_of bounds)))))

    zero_at : (i : ℕ) → d (p i o) ≡ o
    zero_at i =
        turn i (i % f.order) o (sym (mod-mod i f.order))
        ∙ sym (w_low (i % f.order) (mod-lt i (order_some K floors f (pieces_of bounds))))
        ∙ zero_below (i % f.order)

    -- ---- 0 on each interval

    on_covered : (i : ℕ) → IsCovered f.order (IsTight f) i → (l : R) → IsInside K floors l →
        d (p i l) ≡ o
    unfolding Rattle.gj_reals.proofs.Lines.HasSlope
    on_covered i covered l inside =
        let (slope, h) = slope_on_covered K floors f bounds continuous d follows i covered in
        let end : d (p i e) ≡ o = ap (λ t. d (p i t)) (sym (K.plus_zero e))
        ∙ ap d (next_point K floors f bounds continuous i o) ∙ zero_at (i + 1) in
        let flat : slope ≡ o =
        ring K (slope ∷ []) (var 0) (nil ⊕ unit ⊗ var 0) refl
        ∙ ap (λ t. plus t (times e slope)) (sym (zero_at i)) ∙ sym (h.is e e_inside) ∙ end in
        h.is l inside ∙ ap₂ (λ s t. plus s (times l t)) (zero_at i) flat
        ∙ ring K (l ∷ []) (nil ⊕ var 0 ⊗ nil) nil refl

    zero_inside : (i : ℕ) → i < f.order → (l : R) → IsInside K floors l → d (p i l) ≡ o
    zero_inside i low l inside =
        ⊎_elim (λ same. same)
        (λ apart. absurd (not_uncovered f bounds continuous minimal
        (no_perturbation 4 (omega arith)) i low
        (λ covered. apart (on_covered i covered l inside))))
        (same_or_apart (d (p i l)) o)

    -- ---- every point is one of these, modulo 1

    pub equal : (x : R) → a x ≡ b x
    unfolding d
    equal x =
        let z = Rattle.gj_fields.specs.Fields.HasFloor.floor floors (times q x) in
        let l = plus (times q x) (negative (whole K z)) in
        let parts : HasParts K floors f (pieces_of bounds) x z l =
        some_parts K floors f (pieces_of bounds) x in
        let i = index_of z f.order in
        let some = order_some K floors f (pieces_of bounds) in
        let index = index_is z f.order some in
        let n = number K index.n in
        let m = number K index.m in
        let inside : IsInside K floors l = record {
          low = parts.low;
          high = le_of_not K e l (Rattle.gj_reals.proofs.Pieces.is_false K e l parts.high);
        } in
        let some_q = number_some K f.order some in
        let divided = λ (y : R). ring K (q ∷ y ∷ K.inverse q ∷ []) (var 0 ⊗ (var 1 ⊗ var 2))
        (var 2 ⊗ (var 0 ⊗ var 1)) refl in
        let back = λ (y : R). sym (inverse_at K q y some_q) ∙ divided y in
        let wholes : plus (whole K z) (times n q) ≡ plus (number K i) (times m q) =
        ap (plus (whole K z)) (sym (number_times K index.n f.order))
        ∙ sym (whole_plus K z (pos (index.n * f.order))) ∙ ap (whole K) index.is
        ∙ number_plus K i (index.m * f.order)
        ∙ ap (plus (number K i)) (number_times K index.m f.order) in
        let products : times q (plus x n) ≡ times q (plus (p i l) m) =
        K.times_plus q x n ∙ ap (λ t. plus t (times q n)) parts.is
        ∙ ring K (whole K z ∷ l ∷ q ∷ n ∷ []) (var 0 ⊕ var 1 ⊕ var 2 ⊗ var 3)
        (var 0 ⊕ var 3 ⊗ var 2 ⊕ var 1) refl
        ∙ ap (λ t. plus t l) wholes
        ∙ ring K (number K i ∷ m ∷ q ∷ l ∷ []) (var 0 ⊕ var 1 ⊗ var 2 ⊕ var 3)
        (var 0 ⊕ var 3 ⊕ var 2 ⊗ var 1) refl
        ∙ ap (λ t. plus t (times q m)) (sym (inverse_at K q (plus (number K i) l) some_q))
        ∙ sym (K.times_plus q (p i l) m) in
        let same : IsSamePoint K x (p i l) = (
          index.n,
          index.m,
          back (plus x n) ∙ ap (times (K.inverse q)) products
              ∙ sym (back (plus (p i l) m)),
        ) in
        let zero_there = zero_inside i (index_low z f.order some) l inside in
        at_same_point K a a_rules.function x (p i l) same
        ∙ ring K (a (p i l) ∷ b (p i l) ∷ []) (var 0) ((var 0 ⊕ neg (var 1)) ⊕ var 1) refl
        ∙ ap (λ t. plus t (b (p i l))) zero_there
        ∙ ring K (b (p i l) ∷ []) (nil ⊕ var 0) (var 0) refl
        ∙ sym (at_same_point K b b_rules.function x (p i l) same)

  pub extreme_there : IsExtremeAmong K v place
  extreme_there = record {
    valid = minimal_there.valid;
    no_average = λ a b a_valid b_valid average.
        equal a b
        (rules_of_minimal K floors a place
        (average_minimal K v a b place minimal_there a_valid b_valid average))
        (rules_of_minimal K floors b place
        (average_minimal K v b a place minimal_there b_valid a_valid
        (λ x. K.plus_commutes (b x) (a x) ∙ average x)))
        average;
  }
