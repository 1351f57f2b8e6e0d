-- A continuous function that is extreme among the valid functions on the numbers of a field with
-- floors is extreme.
use Rattle.std.proofs.Common.{◌≡◌, ℕ, suc, ◌+◌, ◌-◌, ◌*◌, ◌/◌, ◌%◌, ◌<◌, ℤ, pos, ◌*ℤ◌, [], ◌∷◌, refl, sym, subst, ap, ap₂, ◌∙◌, mul-pos, arith}
use Rattle.std.proofs.Math.Nat.{mod-lt, div-add-mod'}
use Rattle.gj_shape.specs.Extreme.{IsExtreme, AverageTo}
use Rattle.gj_shape.specs.FunctionData.{FunctionData, IsWithinBounds, IsContinuous, at}
use Rattle.gj_shape.specs.Table.{table, IsMinimalTable, IsMinimal}
use Rattle.gj_shape.proofs.TableLemmas.{pieces_of}
use Rattle.gj_theory.proofs.TightFaces.{value_at_place}
use Rattle.gj_fields.specs.Fields.{OrderedField, HasFloor, AtMost, number, whole}
use Rattle.gj_fields.specs.Functions.{IsSamePoint, IsValid, IsExtremeAmong, HasRules}
use Rattle.gj_fields.proofs.Ring.{ring}
use Rattle.gj_fields.proofs.Ring.Term.{var, nil, unit, neg, ◌⊕◌, ◌⊗◌}
use Rattle.gj_fields.proofs.Order.{le_refl, zero_le_one, times_le, number_low, number_plus, by_two}
use Rattle.gj_fields.proofs.Points.{at_same_point}
use Rattle.gj_fields.proofs.FromRules.{rules_minimal}
use Rattle.gj_fields.proofs.Floors.{rules_of_minimal}
use Rattle.gj_fields.proofs.Averages.{extreme_minimal}
use Rattle.gj_fields.proofs.Interval.{IsInside}
use Rattle.gj_fields.proofs.Wholes.{whole_plus, number_mono, number_times}
use Rattle.gj_reals.specs.RealFunctions.{index_of, real_function, real_place}
use Rattle.gj_reals.proofs.Places.{IsIndex, index_is, index_whole}
use Rattle.gj_reals.proofs.AtReals.{number_some, inverse_low, inverse_at, order_some}
use Rattle.gj_reals.proofs.Lift.{whole_times, whole_injective}
use Rattle.gj_reals.proofs.Lines.{point, line, on_line}
use Rattle.gj_reals.proofs.AtFractions.{M_is, grid_some, inverse_times, rules_give_minimal}
use Rattle.gj_reals.proofs.Filled.{filled, filled_is, filled_rules, some_place}

-- ---- points on a grid

module _ {R : Type 0} (K : OrderedField R) (floors : HasFloor K) (n : ℕ) (some : 0 < n) where
  open K use {plus, times, zero as o, one as e, negative}

  -- the point z/n and a rest is one whose index is not negative
  grid_same : (x : R) (z : ℤ) (l : R) (i : ℕ) → times (number K n) x ≡ plus (whole K z) l →
      IsIndex n z i →
      IsSamePoint K x (times (plus (number K i) l) (K.inverse (number K n)))
  grid_same x z l i is index =
      let q = number K n in
      let a = number K index.n in
      let b = number K index.m in
      let y = times (plus (number K i) l) (K.inverse q) in
      let some_q = number_some K n some in
      let back = λ (y : R). sym (inverse_at K q y some_q)
      ∙ ring K (q ∷ y ∷ K.inverse q ∷ []) (var 0 ⊗ (var 1 ⊗ var 2)) (var 2 ⊗ (var 0 ⊗ var 1))
      refl in
      let wholes : plus (whole K z) (times a q) ≡ plus (number K i) (times b q) =
      ap (plus (whole K z)) (sym (number_times K index.n n))
      ∙ sym (whole_plus K z (pos (index.n * n))) ∙ ap (whole K) index.is
      ∙ number_plus K i (index.m * n) ∙ ap (plus (number K i)) (number_times K index.m n) in
      let products : times q (plus x a) ≡ times q (plus y b) =
      K.times_plus q x a ∙ ap (λ t. plus t (times q a)) is
      ∙ ring K (whole K z ∷ l ∷ q ∷ a ∷ []) (var 0 ⊕ var 1 ⊕ var 2 ⊗ var 3)
      (var 0 ⊕ var 3 ⊗ var 2 ⊕ var 1) refl
      ∙ ap (λ t. plus t l) wholes
      ∙ ring K (number K i ∷ b ∷ q ∷ l ∷ []) (var 0 ⊕ var 1 ⊗ var 2 ⊕ var 3)
      (var 0 ⊕ var 3 ⊕ var 2 ⊗ var 1) refl
      ∙ ap (λ t. plus t (times q b)) (sym (inverse_at K q (plus (number K i) l) some_q))
      ∙ sym (K.times_plus q y b) in (
        index.n,
        index.m,
        back (plus x a) ∙ ap (times (K.inverse q)) products
            ∙ sym (back (plus y b)),
      )

module _ {R : Type 0} (K : OrderedField R) (floors : HasFloor K) (f : FunctionData)
    (bounds : IsWithinBounds f) (continuous : IsContinuous f)
    (h : IsExtremeAmong K (real_function K floors f) (real_place K f)) where
  open K use {plus, times, zero as o, one as e, negative}

  abbrev v : R → R
  v = real_function K floors f

  abbrev place : R
  place = real_place K f

  rules : HasRules K v place
  rules = rules_of_minimal K floors v place (extreme_minimal K v place h)

  minimal : IsMinimal f
  minimal = rules_give_minimal K floors f (pieces_of bounds) rules

  module _ (m : ℕ) (some : 0 < m) where
    abbrev t : ℕ → ℤ
    t = table f m

    abbrev n : ℕ
    n = f.order * m

    abbrev s : ℕ
    s = f.scale * m

    n_some : 0 < n
    n_some = grid_some K floors f (pieces_of bounds) m some

    s_some : 0 < s
    s_some = mul-pos (omega (arith, bounds.scale_low)) some

    abbrev M : R
    M = number K m

    abbrev w : R
    w = K.inverse M

    abbrev Y : R
    Y = K.inverse (number K s)

    next_number : (r : ℕ) → number K (r + 1) ≡ plus (number K r) e
    next_number r = number_plus K r 1 ∙ ap (plus (number K r)) (ring K [] (nil ⊕ unit) unit refl)

    -- the function between two places of the grid
    between_places : (i : ℕ) (l : R) → IsInside K floors l →
        v (times (plus (number K i) l) (K.inverse (number K n)))
        ≡ times (plus (times (plus e (negative l)) (whole K (t i))) (times l (whole K (t (i + 1)))))
        Y
    between_places i l inside =
        let a = i / m in
        let r = i % m in
        let low = mod-lt i some in
        let at_i : i ≡ a * m + r = sym (div-add-mod' i m) in
        let at_next : i + 1 ≡ a * m + (r + 1) = omega arith in
        let first_weight : m - r + r ≡ m = omega arith in
        let second_weight : m - (r + 1) + (r + 1) ≡ m = omega arith in
        let A = number K a in
        let N = number K r in
        let L = times (plus N l) w in
        let u = K.inverse (number K n) in
        let M_is' = M_is K floors f (pieces_of bounds) m some in
        let V = whole K (at f.value a) in
        let V' = whole K (at f.value (a + 1)) in
        let first : whole K (t i) ≡ plus (times (plus M (negative N)) V) (times N V') =
        ap (whole K) (value_at_place f m i a (m - r) r continuous some at_i first_weight)
        ∙ whole_plus K (pos (m - r) *ℤ at f.value a) (pos r *ℤ at f.value (a + 1))
        ∙ ap₂ plus (whole_times K (pos (m - r)) (at f.value a))
        (whole_times K (pos r) (at f.value (a + 1)))
        ∙ ap (λ x. plus (times x V) (times N V'))
        (ring K (number K (m - r) ∷ N ∷ []) (var 0) (var 0 ⊕ var 1 ⊕ neg (var 1)) refl
        ∙ ap (λ t. plus t (negative N)) (sym (number_plus K (m - r) r)
        ∙ ap (number K) first_weight)) in
        let second : whole K (t (i + 1))
        ≡ plus (times (plus M (negative (plus N e))) V) (times (plus N e) V') =
        ap (whole K) (value_at_place f m (i + 1) a (m - (r + 1)) (r + 1) continuous some at_next
        second_weight)
        ∙ whole_plus K (pos (m - (r + 1)) *ℤ at f.value a) (pos (r + 1) *ℤ at f.value (a + 1))
        ∙ ap₂ plus (whole_times K (pos (m - (r + 1))) (at f.value a))
        (whole_times K (pos (r + 1)) (at f.value (a + 1)))
        ∙ ap₂ (λ x y. plus (times x V) (times y V'))
        (ring K (number K (m - (r + 1)) ∷ number K (r + 1) ∷ []) (var 0)
        (var 0 ⊕ var 1 ⊕ neg (var 1)) refl
        ∙ ap₂ (λ t y. plus t (negative y)) (sym (number_plus K (m - (r + 1)) (r + 1))
        ∙ ap (number K) second_weight) (next_number r))
        (next_number r) in
        let there : times (plus (number K i) l) u ≡ point K floors f bounds continuous a L =
        ap (λ x. times (plus (number K x) l) u) at_i
        ∙ ap (λ x. times (plus x l) u) (number_plus K (a * m) r
        ∙ ap (λ x. plus x N) (number_times K a m))
        ∙ ring K (A ∷ M ∷ N ∷ l ∷ u ∷ []) ((var 0 ⊗ var 1 ⊕ var 2 ⊕ var 3) ⊗ var 4)
        ((var 0 ⊗ var 1 ⊕ (var 2 ⊕ var 3) ⊗ unit) ⊗ var 4) refl
        ∙ ap (λ x. times (plus (times A M) (times (plus N l) x)) u) (sym M_is')
        ∙ ring K (A ∷ M ∷ N ∷ l ∷ u ∷ w ∷ [])
        ((var 0 ⊗ var 1 ⊕ (var 2 ⊕ var 3) ⊗ (var 1 ⊗ var 5)) ⊗ var 4)
        ((var 0 ⊕ (var 2 ⊕ var 3) ⊗ var 5) ⊗ (var 4 ⊗ var 1)) refl
        ∙ ap (times (plus A L)) (inverse_times K floors f (pieces_of bounds) m some f.order
        (order_some K floors f (pieces_of bounds))) in
        let w_low = inverse_low K M (number_low K m) (number_some K m some) in
        let L_inside : IsInside K floors L = record {
          low = K.times_keeps (plus N l) w
              (by_two K (N ∷ l ∷ []) nil (var 0 ⊕ var 1) nil (var 0) nil (var 1) (number_low K r)
              inside.low refl) w_low;
          high = subst (AtMost K L) M_is' (times_le K (plus N l) M w w_low
              (by_two K (N ∷ l ∷ M ∷ []) (var 0 ⊕ var 1) (var 2) (var 0 ⊕ unit) (var 2) (var 1) unit
              (number_mono K (suc r) m low) inside.high refl));
        } in
        ap v there ∙ on_line K floors f bounds continuous a L L_inside
        ∙ ap (times (line K floors f bounds continuous a L))
        (sym (inverse_times K floors f (pieces_of bounds) m some f.scale
        (omega (arith, bounds.scale_low))))
        ∙ ring K (N ∷ l ∷ w ∷ V ∷ V' ∷ Y ∷ M ∷ [])
        (((unit ⊕ neg ((var 0 ⊕ var 1) ⊗ var 2)) ⊗ var 3 ⊕ (var 0 ⊕ var 1) ⊗ var 2 ⊗ var 4)
        ⊗ (var 5 ⊗ var 6))
        (((var 6 ⊕ neg ((var 0 ⊕ var 1) ⊗ (var 6 ⊗ var 2))) ⊗ var 3
        ⊕ (var 0 ⊕ var 1) ⊗ (var 6 ⊗ var 2) ⊗ var 4) ⊗ var 5) refl
        ∙ ap (λ x. times (plus (times (plus M (negative (times (plus N l) x))) V)
        (times (times (plus N l) x) V')) Y) M_is'
        ∙ ring K (N ∷ l ∷ V ∷ V' ∷ Y ∷ M ∷ [])
        (((var 5 ⊕ neg ((var 0 ⊕ var 1) ⊗ unit)) ⊗ var 2 ⊕ (var 0 ⊕ var 1) ⊗ unit ⊗ var 3) ⊗ var 4)
        (((unit ⊕ neg (var 1)) ⊗ ((var 5 ⊕ neg (var 0)) ⊗ var 2 ⊕ var 0 ⊗ var 3)
        ⊕ var 1 ⊗ ((var 5 ⊕ neg (var 0 ⊕ unit)) ⊗ var 2 ⊕ (var 0 ⊕ unit) ⊗ var 3)) ⊗ var 4) refl
        ∙ ap₂ (λ x y. times (plus (times (plus e (negative l)) x) (times l y)) Y) (sym first)
        (sym second)

    place_there : times (number K n) place ≡ number K (f.place * m)
    place_there =
        ap (λ x. times x place) (number_times K f.order m)
        ∙ ring K (number K f.order ∷ M ∷ number K f.place ∷ K.inverse (number K f.order) ∷ [])
        (var 0 ⊗ var 1 ⊗ (var 2 ⊗ var 3)) (var 0 ⊗ (var 2 ⊗ var 1 ⊗ var 3)) refl
        ∙ inverse_at K (number K f.order) (times (number K f.place) M)
        (number_some K f.order (order_some K floors f (pieces_of bounds)))
        ∙ sym (number_times K f.place m)

    module _ (c : ℕ) (a b : ℕ → ℤ) (c_some : 0 < c) (A : IsMinimalTable a n (f.place * m) (c * s))
        (B : IsMinimalTable b n (f.place * m) (c * s))
        (average : AverageTo c a b t) where
      cs_some : 0 < c * s
      cs_some = mul-pos c_some s_some

      abbrev Z : R
      Z = K.inverse (number K (c * s))

      first : R → R
      first = filled K floors a n (c * s) n_some cs_some A.has_period

      second : R → R
      second = filled K floors b n (c * s) n_some cs_some B.has_period

      first_valid : IsValid K first place
      unfolding first
      first_valid =
          (rules_minimal K first place (filled_rules K floors a n (c * s) n_some cs_some
          A.has_period (f.place * m) A place place_there)).valid

      second_valid : IsValid K second place
      unfolding second
      second_valid =
          (rules_minimal K second place (filled_rules K floors b n (c * s) n_some cs_some
          B.has_period (f.place * m) B place place_there)).valid

      -- the entries' sum, as numbers
      entries : (i : ℕ) → plus (whole K (a i)) (whole K (b i))
          ≡ times (plus (number K c) (number K c)) (whole K (t i))
      entries i =
          let twice : 2 * c ≡ c + c = omega arith in
          sym (whole_plus K (a i) (b i)) ∙ ap (whole K) (average i)
          ∙ whole_times K (pos (2 * c)) (t i)
          ∙ ap (λ x. times x (whole K (t i))) (ap (number K) twice ∙ number_plus K c c)

      Z_is : times Z (number K c) ≡ Y
      Z_is =
          let C = number K c in
          let S = number K s in
          let Z_one : times (times C S) Z ≡ e =
          ap (λ x. times x Z) (sym (number_times K c s))
          ∙ K.times_inverse (number K (c * s)) (number_some K (c * s) cs_some) in
          let Y_one : times S Y ≡ e = K.times_inverse S (number_some K s s_some) in
          sym (K.times_one (times Z C)) ∙ ap (times (times Z C)) (sym Y_one)
          ∙ ring K (C ∷ S ∷ Z ∷ Y ∷ []) (var 2 ⊗ var 0 ⊗ (var 1 ⊗ var 3))
          (var 3 ⊗ (var 0 ⊗ var 1 ⊗ var 2)) refl ∙ ap (times Y) Z_one ∙ K.times_one Y

      average_there : (x : R) → plus (first x) (second x) ≡ plus (v x) (v x)
      unfolding first second
      average_there x =
          let p = some_place K floors a n (c * s) n_some cs_some A.has_period x in
          let p' = some_place K floors b n (c * s) n_some cs_some B.has_period x in
          let z = Rattle.gj_fields.specs.Fields.HasFloor.floor floors (times (number K n) x) in
          let l = plus (times (number K n) x) (negative (whole K z)) in
          let i = index_of z n in
          let index = index_is z n n_some in
          let C = number K c in
          let value : v x ≡ times (plus (times (plus e (negative l)) (whole K (t i)))
          (times l (whole K (t (i + 1))))) Y =
          at_same_point K v rules.function x (times (plus (number K i) l) (K.inverse (number K n)))
          (grid_same K floors n n_some x z l i p.is index)
          ∙ between_places i l p.inside in
          ap₂ plus (filled_is K floors a n (c * s) n_some cs_some A.has_period x z l i p index)
          (filled_is K floors b n (c * s) n_some cs_some B.has_period x z l i p' index)
          ∙ ring K (l ∷ whole K (a i) ∷ whole K (a (i + 1)) ∷ whole K (b i) ∷ whole K (b (i + 1))
          ∷ Z ∷ [])
          (((unit ⊕ neg (var 0)) ⊗ var 1 ⊕ var 0 ⊗ var 2) ⊗ var 5
          ⊕ ((unit ⊕ neg (var 0)) ⊗ var 3 ⊕ var 0 ⊗ var 4) ⊗ var 5)
          (((unit ⊕ neg (var 0)) ⊗ (var 1 ⊕ var 3) ⊕ var 0 ⊗ (var 2 ⊕ var 4)) ⊗ var 5) refl
          ∙ ap₂ (λ y w. times (plus (times (plus e (negative l)) y) (times l w)) Z) (entries i)
          (entries (i + 1))
          ∙ ring K (l ∷ C ∷ whole K (t i) ∷ whole K (t (i + 1)) ∷ Z ∷ [])
          (((unit ⊕ neg (var 0)) ⊗ ((var 1 ⊕ var 1) ⊗ var 2) ⊕ var 0 ⊗ ((var 1 ⊕ var 1) ⊗ var 3))
          ⊗ var 4)
          (((unit ⊕ neg (var 0)) ⊗ var 2 ⊕ var 0 ⊗ var 3) ⊗ (var 4 ⊗ var 1)
          ⊕ ((unit ⊕ neg (var 0)) ⊗ var 2 ⊕ var 0 ⊗ var 3) ⊗ (var 4 ⊗ var 1)) refl
          ∙ ap (λ y.
          plus (times (plus (times (plus e (negative l)) (whole K (t i)))
          (times l (whole K (t (i + 1))))) y)
          (times (plus (times (plus e (negative l)) (whole K (t i)))
          (times l (whole K (t (i + 1))))) y)) Z_is
          ∙ ap (λ y. plus y y) (sym value)

      equal_entries : (i : ℕ) → a i ≡ b i
      unfolding first second
      equal_entries i =
          let N = number K n in
          let x = times (number K i) (K.inverse N) in
          let is : times N x ≡ plus (number K i) o =
          inverse_at K N (number K i) (number_some K n n_some) ∙ sym (K.plus_zero (number K i)) in
          let inside : IsInside K floors o = record { low = le_refl K o; high = zero_le_one K } in
          let at_a = filled_is K floors a n (c * s) n_some cs_some A.has_period x (pos i) o i
          (record { is = is; inside = inside }) (index_whole n i) in
          let at_b = filled_is K floors b n (c * s) n_some cs_some B.has_period x (pos i) o i
          (record { is = is; inside = inside }) (index_whole n i) in
          let same = h.no_average first second first_valid second_valid average_there x in
          let scaled = λ (y z : R). ring K (y ∷ z ∷ Z ∷ number K (c * s) ∷ [])
          (((unit ⊕ neg nil) ⊗ var 0 ⊕ nil ⊗ var 1) ⊗ var 2 ⊗ var 3) (var 0 ⊗ (var 3 ⊗ var 2)) refl
          ∙ ap (times y) (K.times_inverse (number K (c * s)) (number_some K (c * s) cs_some))
          ∙ K.times_one y in
          whole_injective K (a i) (b i)
          (sym (scaled (whole K (a i)) (whole K (a (i + 1))))
          ∙ ap (λ y. times y (number K (c * s))) (sym at_a ∙ same ∙ at_b)
          ∙ scaled (whole K (b i)) (whole K (b (i + 1))))

  pub extreme_from_reals : IsExtreme f
  extreme_from_reals m some = record {
    minimal = minimal m some;
    no_average = λ c a b c_some A B average. equal_entries m some c a b c_some A B average;
  }
