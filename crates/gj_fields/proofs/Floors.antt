-- A field with floors has a test of points modulo 1.
use Rattle.std.proofs.Common.{◌≡◌, ◌+◌, ℤ, pos, ◌+ℤ◌, ◌-ℤ◌, ◌≤ℤ◌, Bool, true, false, ⊎_elim, [], ◌∷◌, refl, sym, subst, ap, ◌∙◌, arith}
use Rattle.std.proofs.lemmas.Bool.{cases_lt}
use Rattle.std.proofs.lemmas.Int.{ints}
use Rattle.gj_fields.specs.Fields.{OrderedField, AtMost, number, whole, HasFloor}
use Rattle.gj_fields.specs.Functions.{IsMinimalAmong, HasRules}
use Rattle.gj_fields.proofs.Ring.{ring, cancel}
use Rattle.gj_fields.proofs.Ring.Term.{var, nil, unit, neg, ◌⊕◌}
use Rattle.gj_fields.proofs.Order.{either, le_of_eq, by_two}
use Rattle.gj_fields.proofs.Wholes.{above, below, parts_are, whole_parts, whole_plus, whole_mono, whole_order}
use Rattle.gj_fields.proofs.ToRules.{TellsPoints, minimal_rules}

-- what is not at most b is at least the next
next_under : (a b : ℤ) → (a ≤ℤ b → ⊥) → (b +ℤ pos 1) ≤ℤ a
next_under a b h =
    let a_is = parts_are a in
    let b_is = parts_are b in
    ⊎_elim (λ less. omega (arith, ints)) (λ most. absurd (h (omega (arith, ints))))
    (cases_lt (above b + below a) (above a + below b))

module _ {R : Type 0} (K : OrderedField R) (floors : HasFloor K) where
  open K use {plus, times, zero as o, one as e, negative}
  open floors use {floor}

  not_under : (a b : ℤ) → K.at_most (whole K a) (whole K b) ≡ false → (a ≤ℤ b → ⊥)
  not_under a b other h = let same : true ≡ false = sym (whole_mono K a b h) ∙ other in cc

  -- the whole number at most x whose next is not
  pub floor_is : (x : R) (z : ℤ) → AtMost K (whole K z) x → (AtMost K (plus (whole K z) e) x → ⊥) →
      floor x ≡ z
  floor_is x z low high =
      let up : z ≤ℤ floor x =
      ⊎_elim (λ yes. whole_order K z (floor x) yes)
      (λ other. let next : AtMost K (plus (whole K (floor x)) e) x =
      K.transitive _ (whole K z) _
      (subst (λ w. AtMost K w (whole K z))
      (whole_plus K (floor x) (pos 1) ∙ ap (plus (whole K (floor x)))
      (ring K [] (nil ⊕ unit) unit refl))
      (whole_mono K (floor x +ℤ pos 1) z
      (next_under z (floor x) (not_under z (floor x) other)))) low in absurd (floors.high x next))
      (either (K.at_most (whole K z) (whole K (floor x)))) in
      let down : floor x ≤ℤ z =
      ⊎_elim (λ yes. whole_order K (floor x) z yes)
      (λ other. let next : AtMost K (plus (whole K z) e) x =
      K.transitive _ (whole K (floor x)) _
      (subst (λ w. AtMost K w (whole K (floor x)))
      (whole_plus K z (pos 1) ∙ ap (plus (whole K z)) (ring K [] (nil ⊕ unit) unit refl))
      (whole_mono K (z +ℤ pos 1) (floor x)
      (next_under (floor x) z (not_under (floor x) z other)))) (floors.low x) in absurd (high next))
      (either (K.at_most (whole K (floor x)) (whole K z))) in
      omega (arith, ints)

  abbrev pub same_point_test : R → R → Bool
  same_point_test x y = K.at_most (plus x (negative y)) (whole K (floor (plus x (negative y))))

  pub tells_points : TellsPoints K same_point_test
  tells_points = record {
    tells = λ x y h.
        let d = plus x (negative y) in
        let z = floor d in
        let same : d ≡ whole K z = K.antisymmetric d (whole K z) h (floors.low d) in (
          below z,
          above z,
          ring K (x ∷ y ∷ number K (below z) ∷ []) (var 0 ⊕ var 2)
              (var 1 ⊕ ((var 0 ⊕ neg (var 1)) ⊕ var 2)) refl
              ∙ ap (λ w. plus y (plus w (number K (below z)))) same ∙ ap (plus y) (whole_parts K z),
        );
    finds = λ x y (n, m, h).
        let d = plus x (negative y) in
        let z : ℤ = pos m -ℤ pos n in
        let sum : whole K z ≡ d =
        cancel K (whole K z) d (number K n)
        (sym (whole_plus K z (pos n)) ∙ ap (whole K) (let back : z +ℤ pos n ≡ pos m =
        omega (arith, ints) in back)
        ∙ ring K (y ∷ number K m ∷ []) (var 1) ((var 0 ⊕ var 1) ⊕ neg (var 0)) refl
        ∙ ap (λ w. plus w (negative y)) (sym h)
        ∙ ring K (x ∷ y ∷ number K n ∷ []) ((var 0 ⊕ var 2) ⊕ neg (var 1))
        ((var 0 ⊕ neg (var 1)) ⊕ var 2) refl) in
        let floor_z : floor d ≡ z =
        floor_is d z (le_of_eq K (whole K z) d sum)
        (λ next. Rattle.gj_fields.proofs.Wholes.not_one_le_zero K
        (by_two K (whole K z ∷ d ∷ []) unit nil (var 0 ⊕ unit) (var 1) (var 1) (var 0) next
        (le_of_eq K d (whole K z) (sym sum)) refl)) in
        le_of_eq K d (whole K (floor d)) (sym sum ∙ ap (whole K) (sym floor_z));
  }

  pub rules_of_minimal : (v : R → R) (f : R) → IsMinimalAmong K v f → HasRules K v f
  rules_of_minimal v f h = minimal_rules K same_point_test tells_points v f h
