-- A function that is minimal among the valid functions meets the rules.
use Rattle.std.proofs.Common.{◌≡◌, ◌≢◌, Bool, true, false, ◌⊎◌, inl, inr, ⊎_elim, List, [], ◌∷◌, ◌++◌, map, refl, sym, subst, subst₂, ap, ap₂, ◌∙◌}
use Rattle.gj_fields.specs.Fields.{OrderedField, AtMost, number}
use Rattle.gj_fields.specs.Functions.{IsSamePoint, total_of, IsFunction, IsValid, IsMinimalAmong, HasRules}
use Rattle.gj_fields.proofs.Ring.{ring}
use Rattle.gj_fields.proofs.Ring.Term.{var, nil, unit, neg, ◌⊕◌, ◌⊗◌}
use Rattle.gj_fields.proofs.Order.{either, add_le, le_refl, le_of_eq, le_of_not, zero_le_one, by_one, by_two, by_three}
use Rattle.gj_fields.proofs.Points.{same_point, point_sym, point_plus, point_trans, at_same_point, total_low, total-append, values-append}

-- a test of points
pub record TellsPoints {R : Type 0} (K : OrderedField R) (test : R → R → Bool) : Type 0 where
  pub tells : (x y : R) → test x y ≡ true → IsSamePoint K x y
  pub finds : (x y : R) → IsSamePoint K x y → test x y ≡ true

module _ {R : Type 0} (K : OrderedField R) (test : R → R → Bool) (points : TellsPoints K test) where
  open K use {plus, times, zero as o, one as e, negative}

  -- the function v with the value w at the points that are a
  abbrev changed : (R → R) → R → R → R → R
  changed v a w x = elim (test x a) [ true ↦ w | false ↦ v x ]

  changed_at : (v : R → R) (a w x : R) → test x a ≡ true → changed v a w x ≡ w
  changed_at v a w x h = ap (λ b. elim b as (λ _. R) [ true ↦ w | false ↦ v x ]) h

  changed_off : (v : R → R) (a w x : R) → test x a ≡ false → changed v a w x ≡ v x
  changed_off v a w x h = ap (λ b. elim b as (λ _. R) [ true ↦ w | false ↦ v x ]) h

  next_point : (x : R) → IsSamePoint K (plus x e) x
  next_point x = (0, 1, ring K (x ∷ []) (var 0 ⊕ unit ⊕ nil) (var 0 ⊕ (nil ⊕ unit)) refl)

  not_both : {b : Bool} → b ≡ true → b ≡ false → ⊥
  not_both h k = let same : true ≡ false = sym h ∙ k in cc

  changed_function : (v : R → R) (a w : R) → IsFunction K v → AtMost K o w →
      IsFunction K (changed v a w)
  changed_function v a w h low = record {
    nonnegative = λ x.
        ⊎_elim (λ at. subst (AtMost K o) (sym (changed_at v a w x at)) low)
        (λ off. subst (AtMost K o) (sym (changed_off v a w x off)) (h.nonnegative x))
        (either (test x a));
    has_period = λ x.
        let there : test (plus x e) a ≡ true → test x a ≡ true =
        λ k. points.finds x a (point_trans K x (plus x e) a
        (point_sym K (plus x e) x (next_point x)) (points.tells (plus x e) a k)) in
        let here : test x a ≡ true → test (plus x e) a ≡ true =
        λ k. points.finds (plus x e) a (point_trans K (plus x e) x a (next_point x)
        (points.tells x a k)) in
        ⊎_elim
        (λ at. changed_at v a w (plus x e) (here at) ∙ sym (changed_at v a w x at))
        (λ off. ⊎_elim
        (λ at'. absurd (not_both (there at') off))
        (λ off'. changed_off v a w (plus x e) off' ∙ h.has_period x ∙ sym (changed_off v a w x off))
        (either (test (plus x e) a)))
        (either (test x a));
  }

  -- points that stand for those of a list: their values are the changed ones
  StandFor : (R → R) → (R → R) → List R → Type 0
  StandFor v u ys =
      (zs : List R) × IsSamePoint K (total_of K zs) (total_of K ys)
      × (total_of K (map v zs) ≡ total_of K (map u ys))

  stand_for : (v : R → R) (a : R) (xs ys : List R) → IsSamePoint K (total_of K xs) a →
      StandFor v (changed v a (total_of K (map v xs))) ys
  unfolding StandFor
  stand_for v a xs [] place = ([], same_point K o o refl, refl)
  stand_for v a xs (y ∷ ys) place =
      let w = total_of K (map v xs) in
      let (zs, same, weight) = stand_for v a xs ys place in
      ⊎_elim
      (λ at. (
        xs ++ zs,
        subst (λ z. IsSamePoint K z (plus y (total_of K ys))) (sym (total-append K xs zs))
            (point_plus K (total_of K xs) y (total_of K zs) (total_of K ys)
            (point_trans K (total_of K xs) a y place (point_sym K y a (points.tells y a at))) same),
        values-append K v xs zs ∙ ap₂ plus (sym (changed_at v a w y at)) weight,
      ))
      (λ off. (
        y ∷ zs,
        point_plus K y y (total_of K zs) (total_of K ys) (same_point K y y refl) same,
        ap₂ plus (sym (changed_off v a w y off)) weight,
      ))
      (either (test y a))

  changed_valid : (v : R → R) (f a : R) (xs : List R) → IsValid K v f →
      IsSamePoint K (total_of K xs) a →
      IsValid K (changed v a (total_of K (map v xs))) f
  unfolding StandFor
  changed_valid v f a xs h place = record {
    function = changed_function v a (total_of K (map v xs)) h.function
        (total_low K v h.function xs);
    at_solutions = λ ys solution.
        let (zs, same, weight) = stand_for v a xs ys place in
        subst (AtMost K e) weight (h.at_solutions zs
        (point_trans K (total_of K zs) (total_of K ys) f same solution));
  }

  module _ (v : R → R) (f : R) (h : IsMinimalAmong K v f) where
    function : IsFunction K v
    function = h.valid.function

    -- the value at a is at most the sum of those at points that add up to a
    below_sum : (a : R) (xs : List R) → IsSamePoint K (total_of K xs) a →
        AtMost K (v a) (total_of K (map v xs))
    below_sum a xs place =
        let w = total_of K (map v xs) in
        ⊎_elim (λ yes. yes)
        (λ no.
        let equal = h.none_below (changed v a w) (changed_valid v f a xs h.valid place)
        (λ x. ⊎_elim
        (λ at. subst₂ (AtMost K) (sym (changed_at v a w x at))
        (sym (at_same_point K v function x a (points.tells x a at))) (le_of_not K (v a) w no))
        (λ off. le_of_eq K (changed v a w x) (v x) (changed_off v a w x off))
        (either (test x a))) a in
        le_of_eq K (v a) w
        (sym equal ∙ changed_at v a w a (points.finds a a (same_point K a a refl))))
        (either (K.at_most (v a) w))

    zero_is : v o ≡ o
    zero_is =
        K.antisymmetric (v o) o (below_sum o [] (same_point K o o refl)) (function.nonnegative o)

    subadditive_is : (x y : R) → AtMost K (v (plus x y)) (plus (v x) (v y))
    subadditive_is x y =
        subst (AtMost K (v (plus x y)))
        (ring K (v x ∷ v y ∷ []) (var 0 ⊕ (var 1 ⊕ nil)) (var 0 ⊕ var 1) refl)
        (below_sum (plus x y) (x ∷ y ∷ [])
        (same_point K (total_of K (x ∷ y ∷ [])) (plus x y)
        (ring K (x ∷ y ∷ []) (var 0 ⊕ (var 1 ⊕ nil)) (var 0 ⊕ var 1) refl)))

    -- ---- symmetry

    -- no point of the list is x, or the others leave one out
    Others : R → List R → Type 0
    Others x ys = (rest : List R) × IsSamePoint K (plus x (total_of K rest)) (total_of K ys) ×
        (plus (v x) (total_of K (map v rest)) ≡ total_of K (map v ys))

    others : (x : R) (w : R) (ys : List R) →
        (total_of K (map (changed v x w) ys) ≡ total_of K (map v ys)) ⊎ Others x ys
    unfolding Others
    others x w [] = inl refl
    others x w (y ∷ ys) =
        ⊎_elim
        (λ at. inr (
          ys,
          point_plus K x y (total_of K ys) (total_of K ys) (point_sym K y x (points.tells y x at))
              (same_point K (total_of K ys) (total_of K ys) refl),
          ap (λ z. plus z (total_of K (map v ys)))
              (sym (at_same_point K v function y x (points.tells y x at))),
        ))
        (λ off. ⊎_elim
        (λ none. inl (ap₂ plus (changed_off v x w y off) none))
        (λ some. inr (
          y ∷ some.0,
          subst (λ z. IsSamePoint K z (plus y (total_of K ys)))
              (ring K (x ∷ y ∷ total_of K some.0 ∷ []) (var 1 ⊕ (var 0 ⊕ var 2))
              (var 0 ⊕ (var 1 ⊕ var 2)) refl)
              (point_plus K y y (plus x (total_of K some.0)) (total_of K ys) (same_point K y y refl)
              some.1),
          ring K (v x ∷ v y ∷ total_of K (map v some.0) ∷ []) (var 0 ⊕ (var 1 ⊕ var 2))
              (var 1 ⊕ (var 0 ⊕ var 2)) refl
              ∙ ap (plus (v y)) some.2,
        ))
        (others x w ys))
        (either (test y x))

    -- the values at the points that are x, and s times those at the others
    scaled : (s x w : R) → times s w ≡ v x → (ys : List R) →
        (b : R) × AtMost K o b × (times s (total_of K (map (changed v x w) ys))
        ≡ plus (total_of K (map v ys)) (times (plus s (negative e)) b))
    scaled s x w product [] =
        (o, le_refl K o, ring K (s ∷ []) (var 0 ⊗ nil) (nil ⊕ (var 0 ⊕ neg unit) ⊗ nil) refl)
    scaled s x w product (y ∷ ys) =
        let (b, low, is) = scaled s x w product ys in
        let t = total_of K (map v ys) in
        let u = total_of K (map (changed v x w) ys) in
        ⊎_elim
        (λ at. (
          b,
          low,
          K.times_plus s (changed v x w y) u
              ∙ ap₂ plus (ap (times s) (changed_at v x w y at) ∙ product
              ∙ sym (at_same_point K v function y x (points.tells y x at))) is
              ∙ ring K (v y ∷ t ∷ s ∷ b ∷ []) (var 0 ⊕ (var 1 ⊕ (var 2 ⊕ neg unit) ⊗ var 3))
              (var 0 ⊕ var 1 ⊕ (var 2 ⊕ neg unit) ⊗ var 3) refl,
        ))
        (λ off. (
          plus (v y) b,
          subst (λ z. AtMost K z (plus (v y) b)) (K.plus_zero o)
              (add_le K o (v y) o b (function.nonnegative y) low),
          K.times_plus s (changed v x w y) u ∙ ap₂ plus (ap (times s) (changed_off v x w y off)) is
              ∙ ring K (v y ∷ t ∷ s ∷ b ∷ []) (var 2 ⊗ var 0 ⊕ (var 1 ⊕ (var 2 ⊕ neg unit) ⊗ var 3))
              (var 0 ⊕ var 1 ⊕ (var 2 ⊕ neg unit) ⊗ (var 0 ⊕ var 3)) refl,
        ))
        (either (test y x))

    -- what s times is at least 1 times s is at least 1
    at_least_one : (s u : R) → AtMost K e s → AtMost K s (times s u) → AtMost K e u
    at_least_one s u some more =
        ⊎_elim (λ yes. yes)
        (λ no.
        by_two K (s ∷ u ∷ []) unit (var 1) (var 0) (var 0 ⊗ var 1) nil
        ((var 0 ⊕ neg unit) ⊗ (unit ⊕ neg (var 1))) more
        (K.times_keeps (plus s (negative e)) (plus e (negative u))
        (by_one K (s ∷ []) nil (var 0 ⊕ neg unit) unit (var 0) some refl)
        (by_one K (u ∷ []) nil (unit ⊕ neg (var 0)) (var 0) unit (le_of_not K e u no) refl)) refl)
        (either (K.at_most e u))

    -- so with what is not negative
    not_negative : (s w : R) → AtMost K e s → AtMost K o (times s w) → AtMost K o w
    not_negative s w some more =
        ⊎_elim (λ yes. yes)
        (λ no.
        by_two K (s ∷ w ∷ []) nil (var 1) nil (var 0 ⊗ var 1) nil ((var 0 ⊕ neg unit) ⊗ neg (var 1))
        more
        (K.times_keeps (plus s (negative e)) (negative w)
        (by_one K (s ∷ []) nil (var 0 ⊕ neg unit) unit (var 0) some refl)
        (by_one K (w ∷ []) nil (neg (var 0)) (var 0) nil (le_of_not K o w no) refl)) refl)
        (either (K.at_most o w))

    module _ (x y : R) (opposite : IsSamePoint K (plus x y) f) where
      s : R
      s = plus (v x) (v y)

      s_some : AtMost K e s
      unfolding s
      s_some =
          subst (AtMost K e) (ring K (v x ∷ v y ∷ []) (var 0 ⊕ (var 1 ⊕ nil)) (var 0 ⊕ var 1) refl)
          (h.valid.at_solutions (x ∷ y ∷ [])
          (point_trans K (total_of K (x ∷ y ∷ [])) (plus x y) f
          (same_point K (total_of K (x ∷ y ∷ [])) (plus x y)
          (ring K (x ∷ y ∷ []) (var 0 ⊕ (var 1 ⊕ nil)) (var 0 ⊕ var 1) refl)) opposite))

      w : R
      w = times (v x) (K.inverse s)

      s_not_zero : s ≢ o
      s_not_zero none =
          K.different (K.antisymmetric e o (subst (AtMost K e) none s_some) (zero_le_one K))

      product_is : times s w ≡ v x
      unfolding w
      product_is =
          ring K (s ∷ v x ∷ K.inverse s ∷ []) (var 0 ⊗ (var 1 ⊗ var 2)) (var 1 ⊗ (var 0 ⊗ var 2))
          refl
          ∙ ap (times (v x)) (K.times_inverse s s_not_zero) ∙ K.times_one (v x)

      w_low : AtMost K o w
      w_low = not_negative s w s_some (subst (AtMost K o) (sym product_is) (function.nonnegative x))

      more_low : AtMost K o (plus s (negative e))
      more_low = by_one K (s ∷ []) nil (var 0 ⊕ neg unit) unit (var 0) s_some refl

      -- the value at x divided by s makes a valid function
      divided_valid : IsValid K (changed v x w) f
      unfolding s Others
      divided_valid = record {
        function = changed_function v x w function w_low;
        at_solutions = λ ys solution.
            let t = total_of K (map v ys) in
            let u = total_of K (map (changed v x w) ys) in
            let (b, low, is) = scaled s x w product_is ys in
            ⊎_elim
            (λ none. subst (AtMost K e) (sym none) (h.valid.at_solutions ys solution))
            (λ some.
            let rest = some.0 in
            let place : IsSamePoint K (total_of K rest) y =
            let (n, m, k) = point_trans K (plus x (total_of K rest)) (total_of K ys) (plus x y)
            some.1
            (point_trans K (total_of K ys) f (plus x y) solution
            (point_sym K (plus x y) f opposite)) in (
              n,
              m,
              Rattle.gj_fields.proofs.Ring.cancel K (plus (total_of K rest) (number K n))
                  (plus y (number K m)) x
                  (ring K (x ∷ total_of K rest ∷ number K n ∷ []) (var 1 ⊕ var 2 ⊕ var 0)
                  (var 0 ⊕ var 1 ⊕ var 2) refl ∙ k
                  ∙ ring K (x ∷ y ∷ number K m ∷ []) (var 0 ⊕ var 1 ⊕ var 2) (var 1 ⊕ var 2 ⊕ var 0)
                  refl),
            ) in
            let least = below_sum y rest place in
            at_least_one s u s_some
            (subst (AtMost K s) (sym is)
            (by_three K (v x ∷ v y ∷ total_of K (map v rest) ∷ t ∷ s ∷ b ∷ [])
            (var 0 ⊕ var 1) (var 3 ⊕ (var 4 ⊕ neg unit) ⊗ var 5)
            (var 1) (var 2) (var 0 ⊕ var 2) (var 3) nil ((var 4 ⊕ neg unit) ⊗ var 5)
            least (le_of_eq K (plus (v x) (total_of K (map v rest))) t some.2)
            (K.times_keeps (plus s (negative e)) b more_low low) refl)))
            (others x w ys);
      }

      -- so s times the value at x is that value
      kept_value : times s (v x) ≡ v x
      kept_value =
          let equal = h.none_below (changed v x w) divided_valid
          (λ z. ⊎_elim
          (λ at. subst₂ (AtMost K) (sym (changed_at v x w z at))
          (sym (at_same_point K v function z x (points.tells z x at)))
          (by_two K (s ∷ w ∷ v x ∷ []) (var 1) (var 2) nil ((var 0 ⊕ neg unit) ⊗ var 1)
          (var 0 ⊗ var 1) (var 2)
          (K.times_keeps (plus s (negative e)) w more_low w_low)
          (le_of_eq K (times s w) (v x) product_is) refl))
          (λ off. le_of_eq K (changed v x w z) (v z) (changed_off v x w z off))
          (either (test z x))) x in
          let same : w ≡ v x = sym (changed_at v x w x (points.finds x x (same_point K x x refl)))
          ∙ equal in
          ap (times s) (sym same) ∙ product_is

    one_sum : (x y : R) → IsSamePoint K (plus x y) f → plus (v x) (v y) ≡ e
    unfolding s
    one_sum x y opposite =
        let t = plus (v x) (v y) in
        let back =
        point_trans K (plus y x) (plus x y) f
        (same_point K (plus y x) (plus x y) (K.plus_commutes y x)) opposite in
        let other : times t (v y) ≡ v y =
        ap (λ z. times z (v y)) (K.plus_commutes (v x) (v y)) ∙ kept_value y x back in
        let square : times t t ≡ t = K.times_plus t (v x) (v y)
        ∙ ap₂ plus (kept_value x y opposite) other in
        K.antisymmetric t e
        (by_two K (t ∷ []) (var 0) unit nil ((var 0 ⊕ neg unit) ⊗ (var 0 ⊕ neg unit))
        (var 0 ⊗ var 0) (var 0)
        (K.times_keeps (plus t (negative e)) (plus t (negative e)) (more_low x y opposite)
        (more_low x y opposite))
        (le_of_eq K (times t t) t square) refl)
        (s_some x y opposite)

    pub minimal_rules : HasRules K v f
    minimal_rules = record {
      function = function;
      zero_at_zero = zero_is;
      subadditive = subadditive_is;
      symmetric = λ x.
          one_sum x (plus f (negative x))
          (same_point K (plus x (plus f (negative x))) f
          (ring K (x ∷ f ∷ []) (var 0 ⊕ (var 1 ⊕ neg (var 0))) (var 1) refl));
    }
