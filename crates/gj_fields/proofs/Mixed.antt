-- Cuts of rows with continuous columns by a function that meets the rules.
use Rattle.std.proofs.Common.{◌≡◌, ◌≢◌, ℕ, zero, suc, true, false, ⊎_elim, List, [], ◌∷◌, ◌++◌, map, refl, sym, subst, subst₂, ap, ◌∙◌}
use Rattle.gj_fields.specs.Fields.{OrderedField, AtMost, number, whole, HasFloor}
use Rattle.gj_fields.specs.Functions.{IsSamePoint, total_of, HasRules}
use Rattle.gj_fields.specs.MixedCuts.{HasSlopesAtZero, Column, weight_of, total_amount, total_weight}
use Rattle.gj_fields.proofs.Ring.{ring}
use Rattle.gj_fields.proofs.Ring.Term.{var, nil, unit, neg, ◌⊕◌, ◌⊗◌}
use Rattle.gj_fields.proofs.Order.{either, add_le, le_refl, le_of_eq, le_of_not, times_le, by_one, by_two}
use Rattle.gj_fields.proofs.Points.{total-append, values-append}
use Rattle.gj_fields.proofs.FromRules.{rules_minimal}
use Rattle.gj_fields.proofs.Wholes.{above}
use Rattle.gj_fields.proofs.Interval.{most_above}

module _ {R : Type 0} (K : OrderedField R) (floors : HasFloor K) where
  open K use {plus, times, zero as o, one as e, negative}

  -- each number is at most a multiple of a positive one
  multiple_above : (d h : R) → (AtMost K d o → ⊥) → (n : ℕ) × AtMost K h (times (number K n) d)
  multiple_above d h some =
      let low : AtMost K o d = ⊎_elim (λ l. l) (λ l. absurd (some l)) (K.total o d) in
      let d_some : d ≢ o = λ none. some (le_of_eq K d o none) in
      let y = times h (K.inverse d) in
      let z = floors.floor y in
      let n = suc (above z) in
      let fits : AtMost K y (number K n) =
      ⊎_elim (λ l. l)
      (λ l. absurd
      (floors.high y (K.transitive _ (number K n) _
      (K.plus_keeps (whole K z) (number K (above z)) e (most_above K floors z)) l)))
      (K.total y (number K n)) in (
        n,
        subst (λ w. AtMost K w (times (number K n) d))
            (ring K (h ∷ d ∷ K.inverse d ∷ []) (var 0 ⊗ var 2 ⊗ var 1) (var 0 ⊗ (var 1 ⊗ var 2))
            refl ∙ ap (times h) (K.times_inverse d d_some) ∙ K.times_one h)
            (times_le K y (number K n) d low fits),
      )

  -- what is subadditive and at most c h near 0 is at most c h
  module _ (g : R → R) (c d : R) (some : AtMost K d o → ⊥) (subadditive : (x y : R) →
      AtMost K (g (plus x y)) (plus (g x) (g y)))
      (near : (h : R) → AtMost K o h → AtMost K h d → AtMost K (g h) (times c h)) where
    d_low : AtMost K o d
    d_low = ⊎_elim (λ l. l) (λ l. absurd (some l)) (K.total o d)

    in_steps : (n : ℕ) (h : R) → AtMost K o h → AtMost K h (times (number K n) d) →
        AtMost K (g h) (times c h)
    in_steps zero h low fits =
        near h low
        (K.transitive h o d (subst (AtMost K h) (ring K (d ∷ []) (nil ⊗ var 0) nil refl) fits)
        d_low)
    in_steps (suc n) h low fits =
        ⊎_elim
        (λ small. near h low small)
        (λ more.
        let rest = plus h (negative d) in
        let rest_low : AtMost K o rest =
        by_one K (h ∷ d ∷ []) nil (var 0 ⊕ neg (var 1)) (var 1) (var 0) more refl in
        let rest_fits : AtMost K rest (times (number K n) d) =
        by_one K (h ∷ d ∷ number K n ∷ []) (var 0 ⊕ neg (var 1)) (var 2 ⊗ var 1) (var 0)
        ((var 2 ⊕ unit) ⊗ var 1) fits refl in
        subst (λ x. AtMost K (g x) (times c h))
        (ring K (h ∷ d ∷ []) (var 1 ⊕ (var 0 ⊕ neg (var 1))) (var 0) refl)
        (K.transitive _ _ _ (subadditive d rest)
        (by_two K (g d ∷ g rest ∷ c ∷ h ∷ d ∷ []) (var 0 ⊕ var 1) (var 2 ⊗ var 3) (var 0)
        (var 2 ⊗ var 4) (var 1) (var 2 ⊗ (var 3 ⊕ neg (var 4)))
        (near d d_low (le_refl K d)) (in_steps n rest rest_low rest_fits) refl)))
        (K.total h d)

    everywhere : (h : R) → AtMost K o h → AtMost K (g h) (times c h)
    everywhere h low = let (n, fits) = multiple_above d h some in in_steps n h low fits

  module _ (v : R → R) (f up down : R) (h : HasRules K v f)
      (slopes : HasSlopesAtZero K v up down) where
    to_right : (x : R) → AtMost K o x → AtMost K (v x) (times up x)
    to_right =
        everywhere v up slopes.near slopes.positive h.subadditive
        (λ x low fits. le_of_eq K _ _ (slopes.rises x low fits))

    to_left : (x : R) → AtMost K o x → AtMost K (v (negative x)) (times down x)
    to_left =
        everywhere (λ x. v (negative x)) down slopes.near slopes.positive
        (λ x y. subst (λ z. AtMost K (v z) (plus (v (negative x)) (v (negative y))))
        (ring K (x ∷ y ∷ []) (neg (var 0) ⊕ neg (var 1)) (neg (var 0 ⊕ var 1)) refl)
        (h.subadditive (negative x) (negative y)))
        (λ x low fits. le_of_eq K _ _ (slopes.falls x low fits))

    -- the value at an entry times an amount is at most the weight times the amount
    below_weight : (c : Column K) → AtMost K (v (times c.entry c.amount))
        (times (weight_of K up down c.entry) c.amount)
    below_weight c =
        let a = c.entry in
        let z = c.amount in
        ⊎_elim
        (λ rises.
        let weight : weight_of K up down a ≡ times up a =
        ap (λ b. elim b as (λ _. R) [ true ↦ times up a | false ↦ times down (negative a) ])
        rises in
        subst (AtMost K (v (times a z)))
        (ring K (up ∷ a ∷ z ∷ []) (var 0 ⊗ (var 1 ⊗ var 2)) (var 0 ⊗ var 1 ⊗ var 2) refl
        ∙ ap (λ w. times w z) (sym weight))
        (to_right (times a z) (K.times_keeps a z rises c.nonnegative)))
        (λ falls.
        let weight : weight_of K up down a ≡ times down (negative a) =
        ap (λ b. elim b as (λ _. R) [ true ↦ times up a | false ↦ times down (negative a) ])
        falls in
        let low : AtMost K o (negative a) =
        by_one K (a ∷ []) nil (neg (var 0)) (var 0) nil (le_of_not K o a falls) refl in
        subst₂ (AtMost K)
        (ap v (ring K (a ∷ z ∷ []) (neg (neg (var 0) ⊗ var 1)) (var 0 ⊗ var 1) refl))
        (ring K (down ∷ a ∷ z ∷ []) (var 0 ⊗ (neg (var 1) ⊗ var 2)) (var 0 ⊗ neg (var 1) ⊗ var 2)
        refl ∙ ap (λ w. times w z) (sym weight))
        (to_left (times (negative a) z) (K.times_keeps (negative a) z low c.nonnegative)))
        (either (K.at_most o a))

    amounts : List (Column K) → List R
    amounts [] = []
    amounts (c ∷ cs) = times c.entry c.amount ∷ amounts cs

    total_is : (cs : List (Column K)) → total_of K (amounts cs) ≡ total_amount K cs
    unfolding amounts
    total_is [] = refl
    total_is (c ∷ cs) = ap (plus (times c.entry c.amount)) (total_is cs)

    weights_above : (cs : List (Column K)) →
        AtMost K (total_of K (map v (amounts cs))) (total_weight K up down cs)
    unfolding amounts
    weights_above [] = le_refl K o
    weights_above (c ∷ cs) = add_le K _ _ _ _ (below_weight c) (weights_above cs)

    pub mixed_cut : (points : List R) (cs : List (Column K)) →
        IsSamePoint K (plus (total_of K points) (total_amount K cs)) f →
        AtMost K e (plus (total_of K (map v points)) (total_weight K up down cs))
    mixed_cut points cs solution =
        let valid = (rules_minimal K v f h).valid in
        let all = points ++ amounts cs in
        K.transitive e _ _
        (subst (AtMost K e) (values-append K v points (amounts cs))
        (valid.at_solutions all (subst (λ x. IsSamePoint K x f)
        (sym (total-append K points (amounts cs) ∙ ap (plus (total_of K points)) (total_is cs)))
        solution)))
        (add_le K _ _ _ _ (le_refl K (total_of K (map v points))) (weights_above cs))
