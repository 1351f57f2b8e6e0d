-- A minimal function meets the rules at all numbers of a field with floors.
use Rattle.std.proofs.Common.{◌≡◌, ◌≢◌, ℕ, ◌+◌, ◌*◌, ◌%◌, ◌<◌, ℤ, pos, ◌+ℤ◌, ◌-ℤ◌, true, false, ⊎_elim, [], ◌∷◌, refl, sym, subst, subst₂, ap, ap₂, ◌∙◌, arith}
use Rattle.std.proofs.lemmas.Int.{ints}
use Rattle.gj_shape.specs.FunctionData.{FunctionData, IsPiecewise, at}
use Rattle.gj_shape.specs.Table.{IsMinimal}
use Rattle.gj_shape.proofs.TableLemmas.{table_of_order}
use Rattle.gj_theory.proofs.TestsFromMinimal.{passes_each}
use Rattle.gj_theory.proofs.MinimalFromTests.{limits_symmetric, values_symmetric}
use Rattle.gj_fields.specs.Fields.{OrderedField, HasFloor, AtMost, number, whole}
use Rattle.gj_fields.specs.Functions.{HasRules}
use Rattle.gj_fields.proofs.Ring.{ring}
use Rattle.gj_fields.proofs.Ring.Term.{var, nil, unit, neg, ◌⊕◌, ◌⊗◌}
use Rattle.gj_fields.proofs.Order.{either, le_refl, le_of_eq, le_of_not, times_le, by_one, by_two, number_low}
use Rattle.gj_fields.proofs.Wholes.{whole_plus, number_injective, not_one_le_zero}
use Rattle.gj_fields.proofs.Floors.{floor_is}
use Rattle.gj_reals.specs.RealFunctions.{index_of, value_between, real_function, real_place}
use Rattle.gj_reals.proofs.Places.{IsIndex, index_is, index_plus, index_whole, same_remainder, at_index}
use Rattle.gj_reals.proofs.Pieces.{between, between_zero, between_some, is_false, is_not, rest_low, low_between, Below, on_vertex, on_horizontal, on_vertical, on_lower, on_diagonal, on_upper}

module _ {R : Type 0} (K : OrderedField R) where
  open K use {plus, times, zero as o, one as e, negative}

  pub number_some : (n : ℕ) → 0 < n → number K n ≢ o
  number_some n some h = let none : n ≡ 0 = number_injective K n 0 h in absurd (omega arith)

  pub inverse_low : (x : R) → AtMost K o x → x ≢ o → AtMost K o (K.inverse x)
  inverse_low x low some =
      ⊎_elim (λ h. h)
      (λ h. absurd (not_one_le_zero K
      (by_two K (x ∷ K.inverse x ∷ []) unit nil unit (var 0 ⊗ var 1) nil (var 0 ⊗ neg (var 1))
      (le_of_eq K e (times x (K.inverse x)) (sym (K.times_inverse x some)))
      (K.times_keeps x (negative (K.inverse x)) low
      (by_one K (K.inverse x ∷ []) nil (neg (var 0)) (var 0) nil h refl)) refl)))
      (K.total o (K.inverse x))

  pub inverse_at : (x y : R) → x ≢ o → times x (times y (K.inverse x)) ≡ y
  inverse_at x y some =
      ring K (x ∷ y ∷ K.inverse x ∷ []) (var 0 ⊗ (var 1 ⊗ var 2)) (var 1 ⊗ (var 0 ⊗ var 2)) refl
      ∙ ap (times y) (K.times_inverse x some) ∙ K.times_one y

module _ {R : Type 0} (K : OrderedField R) (floors : HasFloor K) (f : FunctionData)
    (bounds : IsPiecewise f) where
  open K use {plus, times, zero as o, one as e, negative}

  abbrev q : R
  q = number K f.order

  abbrev v : R → R
  v = real_function K floors f

  abbrev D : R
  D = number K f.scale

  pub order_some : 0 < f.order
  order_some = omega (arith, bounds.order_low)

  pub scale_some : number K f.scale ≢ o
  scale_some = number_some K f.scale (omega (arith, bounds.scale_low))

  -- order times x is the whole number z and the rest l
  pub record HasParts (x : R) (z : ℤ) (l : R) : Type 0 where
    pub is : times q x ≡ plus (whole K z) l
    pub low : AtMost K o l
    pub high : AtMost K e l → ⊥

  pub some_parts : (x : R) → HasParts x (floors.floor (times q x))
      (plus (times q x) (negative (whole K (floors.floor (times q x)))))
  some_parts x =
      let y = times q x in
      let z = whole K (floors.floor y) in
      record {
        is = ring K (y ∷ z ∷ []) (var 0) (var 1 ⊕ (var 0 ⊕ neg (var 1))) refl;
        low = by_one K (y ∷ z ∷ []) nil (var 0 ⊕ neg (var 1)) (var 1) (var 0) (floors.low y) refl;
        high = λ h. floors.high y (by_one K (y ∷ z ∷ []) (var 1 ⊕ unit) (var 0) unit
            (var 0 ⊕ neg (var 1)) h refl);
      }

  pub same_between : (z : ℤ) (a b : ℕ) (l : R) → IsIndex f.order z a → IsIndex f.order z b →
      value_between K f a l ≡ value_between K f b l
  same_between z a b l h k =
      let next = λ (c : ℕ) (i : IsIndex f.order z c). index_plus f.order z (pos 1) c 1 i
      (index_whole f.order 1) in
      ap₂ (λ s n. between K (at f.value a) s n l)
      (at_index f.right f.order z a b bounds.right_length h k)
      (at_index f.left f.order (z +ℤ pos 1) (a + 1) (b + 1) bounds.left_length (next a h)
      (next b k))
      ∙ ap (λ w. between K w (at f.right b) (at f.left (b + 1)) l)
      (at_index f.value f.order z a b bounds.value_length h k)

  -- the value at parts
  pub value_is : (x : R) (z : ℤ) (l : R) (a : ℕ) → HasParts x z l → IsIndex f.order z a →
      v x ≡ times (value_between K f a l) (K.inverse D)
  value_is x z l a p i =
      let y = times q x in
      let floor_z : floors.floor y ≡ z =
      floor_is K floors y z
      (by_two K (whole K z ∷ l ∷ y ∷ []) (var 0) (var 2) nil (var 1) (var 0 ⊕ var 1) (var 2) p.low
      (le_of_eq K _ _ (sym p.is)) refl)
      (λ h. p.high (by_two K (whole K z ∷ l ∷ y ∷ []) unit (var 1) (var 0 ⊕ unit) (var 2) (var 2)
      (var 0 ⊕ var 1) h (le_of_eq K _ _ p.is) refl)) in
      let rest : plus y (negative (whole K z)) ≡ l =
      ap (λ w. plus w (negative (whole K z))) p.is
      ∙ ring K (whole K z ∷ l ∷ []) (var 0 ⊕ var 1 ⊕ neg (var 0)) (var 1) refl in
      ap (λ (w : ℤ). times (value_between K f (index_of w f.order) (plus y (negative (whole K w))))
      (K.inverse D)) floor_z
      ∙ ap (λ r. times (value_between K f (index_of z f.order) r) (K.inverse D)) rest
      ∙ ap (λ w. times w (K.inverse D))
      (same_between z (index_of z f.order) a l (index_is z f.order order_some) i)

  -- ---- signs and the period

  D_low : AtMost K o (K.inverse D)
  D_low = inverse_low K D (number_low K f.scale) scale_some

  next_parts : (x : R) (z : ℤ) (l : R) → HasParts x z l → HasParts (plus x e) (z +ℤ pos f.order) l
  next_parts x z l p = record {
    is =
        ring K (q ∷ x ∷ []) (var 0 ⊗ (var 1 ⊕ unit)) (var 0 ⊗ var 1 ⊕ var 0) refl
        ∙ ap (λ w. plus w q) p.is
        ∙ ring K (whole K z ∷ l ∷ q ∷ []) (var 0 ⊕ var 1 ⊕ var 2) (var 0 ⊕ var 2 ⊕ var 1) refl
        ∙ ap (λ w. plus w l) (sym (whole_plus K z (pos f.order)));
    low = p.low;
    high = p.high;
  }

  turned_index : (z : ℤ) (a : ℕ) → IsIndex f.order z a → IsIndex f.order (z +ℤ pos f.order) a
  turned_index z a i =
      let i_is = i.is in
      let turn : (i.m + 1) * f.order ≡ i.m * f.order + f.order = omega arith in
      record { n = i.n; m = i.m + 1; is = omega (arith, ints) }

  has_period : (x : R) → v (plus x e) ≡ v x
  has_period x =
      let y = times q x in
      let z = floors.floor y in
      let p = some_parts x in
      let i = index_is z f.order order_some in
      value_is (plus x e) (z +ℤ pos f.order) _ (index_of z f.order) (next_parts x z _ p)
      (turned_index z (index_of z f.order) i)
      ∙ sym (value_is x z _ (index_of z f.order) p i)

  -- ---- by minimality

  module _ (h : IsMinimal f) where
    nonnegative : (x : R) → AtMost K o (v x)
    nonnegative x =
        let p = some_parts x in
        K.times_keeps _ (K.inverse D) (low_between K f h
        (index_of (floors.floor (times q x)) f.order) _ p.low p.high) D_low

    zero_at_zero : v o ≡ o
    zero_at_zero =
        let p : HasParts o (pos 0) o = record {
          is = ring K (q ∷ []) (var 0 ⊗ nil) (nil ⊕ nil) refl;
          low = le_refl K o;
          high = not_one_le_zero K;
        } in
        value_is o (pos 0) o 0 p (index_whole f.order 0)
        ∙ ap (λ w. times w (K.inverse D))
        (between_zero K _ _ _ o (le_refl K o)
        ∙ ap (whole K) (sym (table_of_order f 0) ∙ (h 1 (omega arith)).zero_at_zero))
        ∙ ring K (K.inverse D ∷ []) (nil ⊗ var 0) nil refl

    sum_parts : (x y : R) (z w : ℤ) (l m : R) → HasParts x z l → HasParts y w m →
        times q (plus x y) ≡ plus (whole K (z +ℤ w)) (plus l m)
    sum_parts x y z w l m p r =
        K.times_plus q x y ∙ ap₂ plus p.is r.is
        ∙ ring K (whole K z ∷ l ∷ whole K w ∷ m ∷ []) (var 0 ⊕ var 1 ⊕ (var 2 ⊕ var 3))
        (var 0 ⊕ var 2 ⊕ (var 1 ⊕ var 3)) refl
        ∙ ap (λ s. plus s (plus l m)) (sym (whole_plus K z w))

    from_below : (x y : R) (z w s : ℤ) (l m r : R) (a b c : ℕ) → HasParts x z l → HasParts y w m →
        HasParts (plus x y) s r →
        IsIndex f.order z a → IsIndex f.order w b → IsIndex f.order s c →
        Below K f h c r a l b m → AtMost K (v (plus x y)) (plus (v x) (v y))
    unfolding Below
    from_below x y z w s l m r a b c p p' p'' i i' i'' below =
        subst₂ (AtMost K) (sym (value_is (plus x y) s r c p'' i''))
        (ring K (value_between K f a l ∷ value_between K f b m ∷ K.inverse D ∷ [])
        ((var 0 ⊕ var 1) ⊗ var 2) (var 0 ⊗ var 2 ⊕ var 1 ⊗ var 2) refl
        ∙ ap₂ plus (sym (value_is x z l a p i)) (sym (value_is y w m b p' i')))
        (times_le K _ _ (K.inverse D) D_low below)

    is_zero : (l : R) → AtMost K o l → K.at_most l o ≡ true → l ≡ o
    is_zero l low none = K.antisymmetric l o none low

    subadditive : (x y : R) → AtMost K (v (plus x y)) (plus (v x) (v y))
    subadditive x y =
        let z = floors.floor (times q x) in
        let w = floors.floor (times q y) in
        let l = plus (times q x) (negative (whole K z)) in
        let m = plus (times q y) (negative (whole K w)) in
        let p : HasParts x z l = some_parts x in
        let p' : HasParts y w m = some_parts y in
        let a = index_of z f.order in
        let b = index_of w f.order in
        let i = index_is z f.order order_some in
        let i' = index_is w f.order order_some in
        let sum = sum_parts x y z w l m p p' in
        let low : AtMost K o (plus l m) =
        by_two K (l ∷ m ∷ []) nil (var 0 ⊕ var 1) nil (var 0) nil (var 1) p.low p'.low refl in
        let i'' = index_plus f.order z w a b i i' in
        let next = index_plus f.order (z +ℤ w) (pos 1) (a + b) 1 i'' (index_whole f.order 1) in
        let r = plus (plus l m) (negative e) in
        ⊎_elim
        (λ carry.
        let p'' : HasParts (plus x y) (z +ℤ w +ℤ pos 1) r = record {
          is =
              sum ∙ ring K (whole K (z +ℤ w) ∷ l ∷ m ∷ []) (var 0 ⊕ (var 1 ⊕ var 2))
              (var 0 ⊕ (nil ⊕ unit) ⊕ (var 1 ⊕ var 2 ⊕ neg unit)) refl
              ∙ ap (λ s. plus s r) (sym (whole_plus K (z +ℤ w) (pos 1)));
          low = by_one K (l ∷ m ∷ []) nil (var 0 ⊕ var 1 ⊕ neg unit) unit (var 0 ⊕ var 1) carry
              refl;
          high = λ k. p.high
              (by_two K (l ∷ m ∷ []) unit (var 0) unit (var 0 ⊕ var 1 ⊕ neg unit) (var 1) unit k
              (le_of_not K e m (is_false K e m p'.high)) refl);
        } in
        let done = from_below x y z w (z +ℤ w +ℤ pos 1) l m r a b (a + b + 1) p p' p'' i i' next in
        ⊎_elim
        (λ l_none.
        absurd (p'.high (subst (AtMost K e)
        (ap (λ s. plus s m) (is_zero l p.low l_none) ∙ ring K (m ∷ []) (nil ⊕ var 0) (var 0) refl)
        carry)))
        (λ l_some. ⊎_elim
        (λ m_none.
        absurd (p.high (subst (AtMost K e) (ap (plus l) (is_zero m p'.low m_none) ∙ K.plus_zero l)
        carry)))
        (λ m_some. ⊎_elim
        (λ r_none. done
        (on_diagonal K f h a b l m r
        (let r_zero = is_zero r p''.low r_none in
        ring K (l ∷ m ∷ []) (var 1) (unit ⊕ neg (var 0) ⊕ (var 0 ⊕ var 1 ⊕ neg unit)) refl
        ∙ ap (plus (plus e (negative l))) r_zero ∙ K.plus_zero (plus e (negative l)))
        p.low p'.low l_some m_some r_none))
        (λ r_some. done (on_upper K f h a b l m p.high p'.high carry l_some m_some r_some))
        (either (K.at_most r o)))
        (either (K.at_most m o)))
        (either (K.at_most l o)))
        (λ small.
        let high = is_not K e (plus l m) small in
        let p'' : HasParts (plus x y) (z +ℤ w) (plus l m) =
        record { is = sum; low = low; high = high } in
        let done = from_below x y z w (z +ℤ w) l m (plus l m) a b (a + b) p p' p'' i i' i'' in
        ⊎_elim
        (λ l_none. let l_zero = is_zero l p.low l_none in
        let same : m ≡ plus l m =
        sym (ap (λ s. plus s m) l_zero ∙ ring K (m ∷ []) (nil ⊕ var 0) (var 0) refl) in
        ⊎_elim
        (λ m_none. done (on_vertex K f h a b l m l_none m_none
        (subst (λ s. K.at_most s o ≡ true) same m_none)))
        (λ m_some. done (on_vertical K f h a b l m same p'.low p'.high l_none m_some))
        (either (K.at_most m o)))
        (λ l_some. ⊎_elim
        (λ m_none. let same : l ≡ plus l m =
        sym (ap (plus l) (is_zero m p'.low m_none) ∙ K.plus_zero l) in
        done (on_horizontal K f h a b l m same p.low p.high l_some m_none))
        (λ m_some. done
        (on_lower K f h a b l m p.low p'.low high l_some m_some
        (is_false K (plus l m) o (λ none. is_not K l o l_some
        (by_two K (l ∷ m ∷ []) (var 0) nil (var 0 ⊕ var 1) nil nil (var 1) none p'.low refl)))))
        (either (K.at_most m o)))
        (either (K.at_most l o)))
        (either (K.at_most e (plus l m)))

    -- ---- symmetry

    opposite_index : (z w : ℤ) (a b n : ℕ) → z +ℤ w +ℤ pos n ≡ pos f.place → IsIndex f.order z a →
        IsIndex f.order w b →
        (a + (b + n)) % f.order ≡ f.place % f.order
    opposite_index z w a b n whole_is i i' =
        let k = index_plus f.order z (w +ℤ pos n) a (b + n) i
        (index_plus f.order w (pos n) b n i' (index_whole f.order n)) in
        let same : z +ℤ (w +ℤ pos n) ≡ pos f.place = omega (arith, ints) in
        same_remainder f.order (pos f.place) (a + (b + n)) f.place
        (subst (λ s. IsIndex f.order s (a + (b + n))) same k) (index_whole f.order f.place)

    at_place : times q (real_place K f) ≡ number K f.place
    at_place = inverse_at K q (number K f.place) (number_some K f.order order_some)

    opposite_parts : (x : R) (z : ℤ) (l : R) → HasParts x z l → (w : ℤ) (n : ℕ) →
        z +ℤ w +ℤ pos n ≡ pos f.place →
        times q (plus (real_place K f) (negative x))
        ≡ plus (whole K w) (plus (number K n) (negative l))
    opposite_parts x z l p w n whole_is =
        ring K (q ∷ real_place K f ∷ x ∷ []) (var 0 ⊗ (var 1 ⊕ neg (var 2)))
        (var 0 ⊗ var 1 ⊕ neg (var 0 ⊗ var 2)) refl
        ∙ ap₂ (λ s t. plus s (negative t))
        (at_place ∙ sym (ap (whole K) whole_is) ∙ whole_plus K (z +ℤ w) (pos n)
        ∙ ap (λ s. plus s (number K n)) (whole_plus K z w)) p.is
        ∙ ring K (whole K z ∷ whole K w ∷ number K n ∷ l ∷ [])
        (var 0 ⊕ var 1 ⊕ var 2 ⊕ neg (var 0 ⊕ var 3)) (var 1 ⊕ (var 2 ⊕ neg (var 3))) refl

    sum_is_one : (x y : R) → plus x y ≡ D → plus (times x (K.inverse D)) (times y (K.inverse D)) ≡ e
    sum_is_one x y sum =
        ring K (x ∷ y ∷ K.inverse D ∷ []) (var 0 ⊗ var 2 ⊕ var 1 ⊗ var 2) ((var 0 ⊕ var 1) ⊗ var 2)
        refl
        ∙ ap (λ s. times s (K.inverse D)) sum ∙ K.times_inverse D scale_some

    real_sum : (x y : ℤ) → x +ℤ y ≡ pos f.scale → plus (whole K x) (whole K y) ≡ D
    real_sum x y sum = sym (whole_plus K x y) ∙ ap (whole K) sum

    symmetric : (x : R) → plus (v x) (v (plus (real_place K f) (negative x))) ≡ e
    symmetric x =
        let z = floors.floor (times q x) in
        let l = plus (times q x) (negative (whole K z)) in
        let p : HasParts x z l = some_parts x in
        let a = index_of z f.order in
        let i = index_is z f.order order_some in
        let y = plus (real_place K f) (negative x) in
        let passes = passes_each f h in
        ⊎_elim
        (λ none.
        let w : ℤ = pos f.place -ℤ z in
        let b = index_of w f.order in
        let i' = index_is w f.order order_some in
        let whole_is : z +ℤ w +ℤ pos 0 ≡ pos f.place = omega (arith, ints) in
        let l_zero = is_zero l p.low none in
        let p' : HasParts y w o = record {
          is = opposite_parts x z l p w 0 whole_is
              ∙ ap (λ s. plus (whole K w) (plus o (negative s))) l_zero
              ∙ ring K (whole K w ∷ []) (var 0 ⊕ (nil ⊕ neg nil)) (var 0 ⊕ nil) refl;
          low = le_refl K o;
          high = not_one_le_zero K;
        } in
        let places = opposite_index z w a b 0 whole_is i i' in
        ap₂ plus (value_is x z l a p i) (value_is y w o b p' i')
        ∙ sum_is_one _ _
        (ap₂ plus (between_zero K _ _ _ l none) (between_zero K _ _ _ o (le_refl K o))
        ∙ real_sum _ _ (values_symmetric f bounds passes a b
        (ap (λ n. (a + n) % f.order) (omega arith) ∙ places))))
        (λ some.
        let w : ℤ = pos f.place -ℤ z -ℤ pos 1 in
        let b = index_of w f.order in
        let i' = index_is w f.order order_some in
        let whole_is : z +ℤ w +ℤ pos 1 ≡ pos f.place = omega (arith, ints) in
        let back : w +ℤ z +ℤ pos 1 ≡ pos f.place = omega (arith, ints) in
        let m = plus e (negative l) in
        let m_high : AtMost K e m → ⊥ =
        λ k. is_not K l o some (by_one K (l ∷ []) (var 0) nil unit (unit ⊕ neg (var 0)) k refl) in
        let m_some : K.at_most m o ≡ false =
        is_false K m o
        (λ k. p.high (by_one K (l ∷ []) unit (var 0) (unit ⊕ neg (var 0)) nil k refl)) in
        let p' : HasParts y w m = record {
          is = opposite_parts x z l p w 1 whole_is
              ∙ ring K (whole K w ∷ l ∷ []) (var 0 ⊕ (nil ⊕ unit ⊕ neg (var 1)))
              (var 0 ⊕ (unit ⊕ neg (var 1))) refl;
          low = rest_low K l p.high;
          high = m_high;
        } in
        let first =
        real_sum _ _ (limits_symmetric f bounds passes a b
        (opposite_index z w a b 1 whole_is i i')) in
        let second =
        real_sum _ _ (limits_symmetric f bounds passes b a (opposite_index w z b a 1 back i' i)) in
        ap₂ plus (value_is x z l a p i) (value_is y w m b p' i')
        ∙ sum_is_one _ _
        (ap₂ plus (between_some K _ _ _ l some) (between_some K _ _ _ m m_some)
        ∙ ring K (l ∷ whole K (at f.right a) ∷ whole K (at f.left (a + 1)) ∷ whole K (at f.right b)
        ∷ whole K (at f.left (b + 1)) ∷ [])
        ((unit ⊕ neg (var 0)) ⊗ var 1 ⊕ var 0 ⊗ var 2
        ⊕ ((unit ⊕ neg (unit ⊕ neg (var 0))) ⊗ var 3 ⊕ (unit ⊕ neg (var 0)) ⊗ var 4))
        ((unit ⊕ neg (var 0)) ⊗ (var 1 ⊕ var 4) ⊕ var 0 ⊗ (var 3 ⊕ var 2)) refl
        ∙ ap₂ (λ s t. plus (times (plus e (negative l)) s) (times l t)) first second
        ∙ ring K (l ∷ D ∷ []) ((unit ⊕ neg (var 0)) ⊗ var 1 ⊕ var 0 ⊗ var 1) (var 1) refl))
        (either (K.at_most l o))

    pub rules_at_reals : HasRules K v (real_place K f)
    rules_at_reals = record {
      function = record { nonnegative = nonnegative; has_period = has_period };
      zero_at_zero = zero_at_zero;
      subadditive = subadditive;
      symmetric = symmetric;
    }
