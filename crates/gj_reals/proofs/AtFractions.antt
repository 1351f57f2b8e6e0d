-- The values at fractions are those of the tables, and what meets the rules at all numbers is
-- minimal.
use Rattle.std.proofs.Common.{◌≡◌, ◌≢◌, ℕ, zero, suc, ◌+◌, ◌-◌, ◌*◌, ◌/◌, ◌%◌, ◌<◌, ℤ, pos, ◌+ℤ◌, ◌*ℤ◌, false, [], ◌∷◌, refl, sym, subst, subst₂, ap, ap₂, ◌∙◌, mul-pos, arith}
use Rattle.std.proofs.Math.Nat.{mod-lt, div-add-mod'}
use Rattle.gj_lemmas.proofs.Quotients.{from_same_remainder}
use Rattle.gj_shape.specs.FunctionData.{FunctionData, IsPiecewise, at}
use Rattle.gj_shape.specs.Table.{table, IsMinimalTable, IsMinimal}
use Rattle.gj_shape.proofs.TableLemmas.{period_of_table}
use Rattle.gj_theory.proofs.Affine.{table_at_place, table_inside}
use Rattle.gj_fields.specs.Fields.{OrderedField, HasFloor, AtMost, number, whole}
use Rattle.gj_fields.specs.Functions.{IsSamePoint, HasRules}
use Rattle.gj_fields.proofs.Ring.{ring}
use Rattle.gj_fields.proofs.Ring.Term.{var, nil, unit, neg, ◌⊕◌, ◌⊗◌}
use Rattle.gj_fields.proofs.Order.{le_of_eq, times_le, number_low, number_plus}
use Rattle.gj_fields.proofs.Points.{at_same_point}
use Rattle.gj_fields.proofs.Wholes.{whole_plus, whole_order, number_order, number_times}
use Rattle.gj_reals.specs.RealFunctions.{value_between, real_function, real_place}
use Rattle.gj_reals.proofs.Places.{index_whole}
use Rattle.gj_reals.proofs.Pieces.{between_zero, between_some, is_false}
use Rattle.gj_reals.proofs.AtReals.{HasParts, value_is, number_some, inverse_low, order_some}
use Rattle.gj_reals.proofs.Lift.{whole_times, whole_injective}

module _ {R : Type 0} (K : OrderedField R) (floors : HasFloor K) (f : FunctionData)
    (bounds : IsPiecewise f) where
  open K use {plus, times, zero as o, one as e, negative}

  abbrev q : R
  q = number K f.order

  abbrev D : R
  D = number K f.scale

  abbrev v : R → R
  v = real_function K floors f

  -- n/d as a number
  abbrev pub fraction : ℕ → ℕ → R
  fraction n d = times (number K n) (K.inverse (number K d))

  module _ (m : ℕ) (some : 0 < m) where
    abbrev M : R
    M = number K m

    abbrev w : R
    w = K.inverse M

    M_some : M ≢ o
    M_some = number_some K m some

    pub M_is : times M w ≡ e
    M_is = K.times_inverse M M_some

    pub grid_some : 0 < f.order * m
    grid_some = mul-pos (order_some K floors f bounds) some

    -- the inverse of a product with m, times m
    pub inverse_times : (n : ℕ) → 0 < n →
        times (K.inverse (number K (n * m))) M ≡ K.inverse (number K n)
    inverse_times n n_some =
        let N = number K n in
        let u = K.inverse (number K (n * m)) in
        let y = K.inverse N in
        let u_is : times (times N M) u ≡ e =
        ap (λ t. times t u) (sym (number_times K n m))
        ∙ K.times_inverse (number K (n * m)) (number_some K (n * m) (mul-pos n_some some)) in
        let y_is : times N y ≡ e = K.times_inverse N (number_some K n n_some) in
        sym (K.times_one (times u M)) ∙ ap (times (times u M)) (sym y_is)
        ∙ ring K (N ∷ M ∷ u ∷ y ∷ []) (var 2 ⊗ var 1 ⊗ (var 0 ⊗ var 3))
        (var 3 ⊗ (var 0 ⊗ var 1 ⊗ var 2)) refl ∙ ap (times y) u_is ∙ K.times_one y

    -- the rest r/m
    rest_parts : (i a r : ℕ) → i ≡ a * m + r → r < m →
        HasParts K floors f bounds (fraction i (f.order * m)) (pos a) (times (number K r) w)
    rest_parts i a r place low =
        let A = number K a in
        let N = number K r in
        let u = K.inverse (number K (f.order * m)) in
        let u_is : times (times q M) u ≡ e =
        ap (λ t. times t u) (sym (number_times K f.order m))
        ∙ K.times_inverse (number K (f.order * m)) (number_some K (f.order * m) grid_some) in
        let w_low = inverse_low K M (number_low K m) M_some in
        record {
          is =
              ap (λ n. times q (times (number K n) u)) place
              ∙ ap (λ t. times q (times t u)) (number_plus K (a * m) r
              ∙ ap (λ t. plus t N) (number_times K a m))
              ∙ ring K (q ∷ A ∷ M ∷ N ∷ u ∷ []) (var 0 ⊗ ((var 1 ⊗ var 2 ⊕ var 3) ⊗ var 4))
              (var 1 ⊗ (var 0 ⊗ var 2 ⊗ var 4) ⊕ var 3 ⊗ (var 0 ⊗ var 4 ⊗ unit)) refl
              ∙ ap₂ (λ s t. plus (times A s) (times N (times (times q u) t))) u_is (sym M_is)
              ∙ ring K (q ∷ A ∷ M ∷ N ∷ u ∷ w ∷ [])
              (var 1 ⊗ unit ⊕ var 3 ⊗ (var 0 ⊗ var 4 ⊗ (var 2 ⊗ var 5)))
              (var 1 ⊕ var 3 ⊗ var 5 ⊗ (var 0 ⊗ var 2 ⊗ var 4)) refl
              ∙ ap (λ t. plus A (times (times N w) t)) u_is ∙ ap (plus A) (K.times_one (times N w));
          low = K.times_keeps N w (number_low K r) w_low;
          high = λ h.
              let most : AtMost K M N =
              subst₂ (AtMost K) (ring K (M ∷ []) (unit ⊗ var 0) (var 0) refl)
              (ring K (M ∷ N ∷ w ∷ []) (var 1 ⊗ var 2 ⊗ var 0) (var 1 ⊗ (var 0 ⊗ var 2)) refl
              ∙ ap (times N) M_is ∙ K.times_one N)
              (times_le K e (times N w) M (number_low K m) h) in
              let back = number_order K m r most in absurd (omega arith);
        }

    -- what is below 1 and above 0
    rest_some : (r : ℕ) → 0 < r → K.at_most (times (number K r) w) o ≡ false
    rest_some r r_some =
        is_false K (times (number K r) w) o (λ h.
        let N = number K r in
        let most : AtMost K N o =
        subst₂ (AtMost K) (ring K (M ∷ N ∷ w ∷ []) (var 1 ⊗ var 2 ⊗ var 0) (var 1 ⊗ (var 0 ⊗ var 2))
        refl ∙ ap (times N) M_is ∙ K.times_one N)
        (ring K (M ∷ []) (nil ⊗ var 0) nil refl) (times_le K (times N w) o M (number_low K m) h) in
        let back = number_order K r 0 most in absurd (omega arith))

    table_there : (i a r : ℕ) → i ≡ a * m + r → r < m →
        times (value_between K f a (times (number K r) w)) (K.inverse D)
        ≡ times (whole K (table f m i)) (K.inverse (number K (f.scale * m)))
    table_there i a zero place low =
        let u = K.inverse (number K (f.scale * m)) in
        let V = whole K (at f.value a) in
        let zero_rest : times o w ≡ o = ring K (w ∷ []) (nil ⊗ var 0) nil refl in
        ap (λ t. times t (K.inverse D))
        (between_zero K _ _ _ (times o w) (le_of_eq K (times o w) o zero_rest))
        ∙ ap (times V) (sym (inverse_times f.scale (omega (arith, bounds.scale_low))))
        ∙ ring K (V ∷ u ∷ M ∷ []) (var 0 ⊗ (var 1 ⊗ var 2)) (var 2 ⊗ var 0 ⊗ var 1) refl
        ∙ ap (λ t. times t u) (sym (whole_times K (pos m) (at f.value a))
        ∙ ap (whole K) (sym (table_at_place f m i a (omega arith) some)))
    table_there i a (suc k) place low =
        let r = suc k in
        let N = number K r in
        let u = K.inverse (number K (f.scale * m)) in
        let S = whole K (at f.right a) in
        let L = whole K (at f.left (a + 1)) in
        let rest : m - r + r ≡ m = omega arith in
        let weight : number K (m - r) ≡ plus M (negative N) =
        ring K (number K (m - r) ∷ N ∷ []) (var 0) (var 0 ⊕ var 1 ⊕ neg (var 1)) refl
        ∙ ap (λ t. plus t (negative N)) (sym (number_plus K (m - r) r) ∙ ap (number K) rest) in
        ap (λ t. times t (K.inverse D))
        (between_some K _ _ _ (times N w) (rest_some r (omega arith)))
        ∙ ap (times (plus (times (plus e (negative (times N w))) S) (times (times N w) L)))
        (sym (inverse_times f.scale (omega (arith, bounds.scale_low))))
        ∙ ring K (N ∷ w ∷ S ∷ L ∷ u ∷ M ∷ [])
        (((unit ⊕ neg (var 0 ⊗ var 1)) ⊗ var 2 ⊕ var 0 ⊗ var 1 ⊗ var 3) ⊗ (var 4 ⊗ var 5))
        (((var 5 ⊕ neg (var 0 ⊗ (var 5 ⊗ var 1))) ⊗ var 2 ⊕ var 0 ⊗ (var 5 ⊗ var 1) ⊗ var 3)
        ⊗ var 4) refl
        ∙ ap (λ t. times (plus (times (plus M (negative (times N t))) S) (times (times N t) L)) u)
        M_is
        ∙ ring K (N ∷ S ∷ L ∷ u ∷ M ∷ [])
        (((var 4 ⊕ neg (var 0 ⊗ unit)) ⊗ var 1 ⊕ var 0 ⊗ unit ⊗ var 2) ⊗ var 3)
        (((var 4 ⊕ neg (var 0)) ⊗ var 1 ⊕ var 0 ⊗ var 2) ⊗ var 3) refl
        ∙ ap (λ t. times t u)
        (ap (λ t. plus (times t S) (times N L)) (sym weight)
        ∙ ap₂ plus (sym (whole_times K (pos (m - r)) (at f.right a)))
        (sym (whole_times K (pos r) (at f.left (a + 1))))
        ∙ sym (whole_plus K (pos (m - r) *ℤ at f.right a) (pos r *ℤ at f.left (a + 1)))
        ∙ ap (whole K)
        (sym (table_inside f m i a (m - r) r place rest (omega arith) (omega arith))))

    -- the value at a fraction is the table's
    pub value_at_fraction : (i : ℕ) →
        v (fraction i (f.order * m)) ≡ times (whole K (table f m i))
        (K.inverse (number K (f.scale * m)))
    value_at_fraction i =
        let a = i / m in
        let r = i % m in
        let low = mod-lt i some in
        let place : i ≡ a * m + r = sym (div-add-mod' i m) in
        value_is K floors f bounds (fraction i (f.order * m)) (pos a) (times (number K r) w) a
        (rest_parts i a r place low) (index_whole f.order a)
        ∙ table_there i a r place low

  -- ---- from the rules

  module _ (h : HasRules K v (real_place K f)) (m : ℕ) (some : 0 < m) where
    abbrev t : ℕ → ℤ
    t = table f m

    abbrev s : ℕ
    s = f.scale * m

    abbrev Y : R
    Y = K.inverse (number K s)

    abbrev x : ℕ → R
    x i = fraction i (f.order * m)

    s_some : 0 < s
    s_some = mul-pos (omega (arith, bounds.scale_low)) some

    S_some : number K s ≢ o
    S_some = number_some K s s_some

    -- a value times the scale
    scaled : (y : R) → times (times y Y) (number K s) ≡ y
    scaled y =
        ring K (y ∷ Y ∷ number K s ∷ []) (var 0 ⊗ var 1 ⊗ var 2) (var 0 ⊗ (var 2 ⊗ var 1)) refl
        ∙ ap (times y) (K.times_inverse (number K s) S_some) ∙ K.times_one y

    unscaled : (y z : R) → AtMost K (times y Y) (times z Y) → AtMost K y z
    unscaled y z most =
        subst₂ (AtMost K) (scaled y) (scaled z)
        (times_le K (times y Y) (times z Y) (number K s) (number_low K s) most)

    same_scaled : (y z : R) → times y Y ≡ times z Y → y ≡ z
    same_scaled y z same = sym (scaled y) ∙ ap (λ u. times u (number K s)) same ∙ scaled z

    is : (i : ℕ) → v (x i) ≡ times (whole K (t i)) Y
    is = value_at_fraction m some

    sum_of_points : (i j : ℕ) → plus (x i) (x j) ≡ x (i + j)
    sum_of_points i j =
        ring K (number K i ∷ number K j ∷ K.inverse (number K (f.order * m)) ∷ [])
        (var 0 ⊗ var 2 ⊕ var 1 ⊗ var 2) ((var 0 ⊕ var 1) ⊗ var 2) refl
        ∙ ap (λ u. times u (K.inverse (number K (f.order * m)))) (sym (number_plus K i j))

    sum_scaled : (y z : R) → plus (times y Y) (times z Y) ≡ times (plus y z) Y
    sum_scaled y z =
        ring K (y ∷ z ∷ Y ∷ []) (var 0 ⊗ var 2 ⊕ var 1 ⊗ var 2) ((var 0 ⊕ var 1) ⊗ var 2) refl

    place_is : x (f.place * m) ≡ real_place K f
    place_is =
        ap (λ u. times u (K.inverse (number K (f.order * m)))) (number_times K f.place m)
        ∙ ring K (number K f.place ∷ number K m ∷ K.inverse (number K (f.order * m)) ∷ [])
        (var 0 ⊗ var 1 ⊗ var 2) (var 0 ⊗ (var 2 ⊗ var 1)) refl
        ∙ ap (times (number K f.place))
        (inverse_times m some f.order (order_some K floors f bounds))

    -- places that are one modulo the grid's order are one point
    same_there : (i j : ℕ) → i % (f.order * m) ≡ j % (f.order * m) → IsSamePoint K (x i) (x j)
    same_there i j same =
        let n = f.order * m in
        let G = number K n in
        let u = K.inverse G in
        let G_is : times G u ≡ e = K.times_inverse G (number_some K n (grid_some m some)) in
        let turned =
        λ (k c : ℕ). ap (plus (x k)) (sym (K.times_one (number K c))
        ∙ ap (times (number K c)) (sym G_is))
        ∙ ring K (number K k ∷ number K c ∷ G ∷ u ∷ []) (var 0 ⊗ var 3 ⊕ var 1 ⊗ (var 2 ⊗ var 3))
        ((var 0 ⊕ var 1 ⊗ var 2) ⊗ var 3) refl
        ∙ ap (λ w. times w u) (ap (plus (number K k)) (sym (number_times K c n))
        ∙ sym (number_plus K k (c * n))) in (
          j / n,
          i / n,
          turned i (j / n)
              ∙ ap (λ k. times (number K k) u) (from_same_remainder i j n same)
              ∙ sym (turned j (i / n)),
        )

    symmetric_there : (i j : ℕ) → (i + j) % (f.order * m) ≡ (f.place * m) % (f.order * m) →
        t i +ℤ t j ≡ pos s
    symmetric_there i j opposite =
        let place = real_place K f in
        let (n, k, sum) = same_there (i + j) (f.place * m) opposite in
        let point : IsSamePoint K (x j) (plus place (negative (x i))) = (
          n,
          k,
          ring K (x i ∷ x j ∷ number K n ∷ []) (var 1 ⊕ var 2)
              ((var 0 ⊕ var 1) ⊕ var 2 ⊕ neg (var 0)) refl
              ∙ ap₂ (λ y z. plus (plus y z) (negative (x i))) (sum_of_points i j) refl
              ∙ ap (λ y. plus y (negative (x i))) sum
              ∙ ap (λ y. plus (plus y (number K k)) (negative (x i))) place_is
              ∙ ring K (place ∷ x i ∷ number K k ∷ []) (var 0 ⊕ var 2 ⊕ neg (var 1))
              (var 0 ⊕ neg (var 1) ⊕ var 2) refl,
        ) in
        let one : times (plus (whole K (t i)) (whole K (t j))) Y ≡ times (number K s) Y =
        sym (sum_scaled (whole K (t i)) (whole K (t j)))
        ∙ ap₂ plus (sym (is i)) (sym (is j)
        ∙ at_same_point K v h.function (x j) (plus place (negative (x i))) point)
        ∙ h.symmetric (x i) ∙ sym (K.times_inverse (number K s) S_some) in
        whole_injective K (t i +ℤ t j) (pos s) (whole_plus K (t i) (t j) ∙ same_scaled _ _ one)

    pub minimal_there : IsMinimalTable t (f.order * m) (f.place * m) s
    minimal_there = record {
      has_period = λ i. period_of_table f m i some bounds;
      zero_at_zero =
          whole_injective K (t 0) (pos 0)
          (same_scaled (whole K (t 0)) o
          (sym (is 0) ∙ ap v (ring K (K.inverse (number K (f.order * m)) ∷ []) (nil ⊗ var 0) nil
          refl) ∙ h.zero_at_zero ∙ ring K (Y ∷ []) nil (nil ⊗ var 0) refl));
      nonnegative = λ i.
          whole_order K (pos 0) (t i)
          (unscaled o (whole K (t i))
          (subst₂ (AtMost K) (ring K (Y ∷ []) nil (nil ⊗ var 0) refl) (is i)
          (h.function.nonnegative (x i))));
      subadditive = λ i j.
          whole_order K (t (i + j)) (t i +ℤ t j)
          (subst (AtMost K (whole K (t (i + j)))) (sym (whole_plus K (t i) (t j)))
          (unscaled (whole K (t (i + j))) (plus (whole K (t i)) (whole K (t j)))
          (subst₂ (AtMost K) (ap v (sum_of_points i j) ∙ is (i + j))
          (ap₂ plus (is i) (is j) ∙ sum_scaled (whole K (t i)) (whole K (t j)))
          (h.subadditive (x i) (x j)))));
      symmetric = symmetric_there;
    }

  pub rules_give_minimal : HasRules K v (real_place K f) → IsMinimal f
  rules_give_minimal h m some = minimal_there h m some
