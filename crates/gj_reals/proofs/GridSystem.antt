-- The linear system of the tight pairs on a function's own grid, and that only 0 solves it in a
-- field if the table is extreme.
use Rattle.std.proofs.Common.{◌≡◌, ◌≢◌, ℕ, zero, suc, ◌+◌, ◌*◌, ◌%◌, ◌<◌, ◌≤◌, ℤ, pos, negsuc, ◌+ℤ◌, ◌*ℤ◌, ◌⊎◌, inl, inr, ⊎_elim, List, [], ◌∷◌, refl, sym, ap, ap₂, ◌∙◌, arith}
use Rattle.std.proofs.Math.Nat.{mod-lt, mod-mod, mod-eq_of_lt, add-mod_right, mod-add-mod, add-mod-mod}
use Rattle.std.proofs.lemmas.Bool.{cases_lt}
use Rattle.std.proofs.lemmas.Int.{ints}
use Rattle.gj_lemmas.proofs.Integers.{same_or_apart_z}
use Rattle.gj_lemmas.proofs.Ring as whole_ring
use Rattle.gj_shape.specs.Additive.{IsTight}
use Rattle.gj_shape.specs.FunctionData.{FunctionData, IsWithinBounds, at}
use Rattle.gj_shape.specs.Table.{table}
use Rattle.gj_shape.proofs.TableLemmas.{table_of_order}
use Rattle.gj_theory.specs.Halves.{IsPerturbation}
use Rattle.gj_theory.proofs.DecidingGrid.{HasNoPerturbation}
use Rattle.gj_theory.proofs.Everywhere.{at_same}
use Rattle.gj_fields.specs.Fields.{OrderedField}
use Rattle.gj_fields.proofs.Ring.{ring}
use Rattle.gj_fields.proofs.Ring.Term.{var, nil, unit, neg, ◌⊕◌, ◌⊗◌}
use Rattle.gj_reals.proofs.RowLists.{unit_row, pair_row, upto, each_upto, of_upto}
use Rattle.gj_reals.proofs.Lift.{dot_whole, dot, Each, combined, combined_whole, combined_row, whole_or_zero}

-- ---- the rows of a solution in whole numbers

unit_whole : (i : ℕ) (z : ℕ → ℤ) → dot_whole (unit_row i) z ≡ z i
unit_whole zero z = whole_ring.by_ring (z 0 ∷ []) (search whole_ring.ring depth 20) refl
unit_whole (suc i) z =
    ap (λ t. pos 0 *ℤ z 0 +ℤ t) (unit_whole i (λ j. z (suc j)))
    ∙ whole_ring.by_ring (z 0 ∷ z (suc i) ∷ []) (search whole_ring.ring depth 20) refl

pair_whole : (i j k : ℕ) (z : ℕ → ℤ) → dot_whole (pair_row i j k) z ≡ pos 0 → z i +ℤ z j ≡ z k
pair_whole i j k z h =
    let sum =
    sym (combined_whole (pos 1) (combined (pos 1) (unit_row i) (pos 1) (unit_row j)) (negsuc 0)
    (unit_row k) z) ∙ h in
    let inner = combined_whole (pos 1) (unit_row i) (pos 1) (unit_row j) z in
    let whole_is : pos 1 *ℤ (pos 1 *ℤ z i +ℤ pos 1 *ℤ z j) +ℤ negsuc 0 *ℤ z k ≡ pos 0 =
    ap₂ (λ s t. pos 1 *ℤ s +ℤ negsuc 0 *ℤ t)
    (sym (inner ∙ ap₂ (λ s t. pos 1 *ℤ s +ℤ pos 1 *ℤ t) (unit_whole i z) (unit_whole j z)))
    (sym (unit_whole k z))
    ∙ sum in
    omega (arith, ints)

-- the row of a pair if it is tight, and a row of zeros if not
abbrev tight_row : FunctionData → ℕ → ℕ → List ℤ
tight_row f i j = elim (same_or_apart_z (at f.value i +ℤ at f.value j) (at f.value (i + j))) [
  | inl tight ↦ pair_row i j ((i + j) % f.order)
  | inr apart ↦ []
]

abbrev grid_rows : FunctionData → List (List ℤ)
grid_rows f = unit_row f.place ∷ upto f.order (λ i. upto f.order (λ j. tight_row f i j ∷ []))

-- the row of a tight pair has a property if it has
of_tight_row : (P : List ℤ → Type 0) (f : FunctionData) (i j : ℕ) → IsTight f i j →
    P (tight_row f i j) → P (pair_row i j ((i + j) % f.order))
of_tight_row P f i j tight =
    elim (same_or_apart_z (at f.value i +ℤ at f.value j) (at f.value (i + j)))
    as (λ (b : (at f.value i +ℤ at f.value j ≡ at f.value (i + j))
    ⊎ (at f.value i +ℤ at f.value j ≢ at f.value (i + j))).
    P (elim b as (λ _. List ℤ) [ inl x ↦ pair_row i j ((i + j) % f.order) | inr y ↦ [] ]) →
    P (pair_row i j ((i + j) % f.order))) [
      | inl x ↦ λ p. p
      | inr apart ↦ λ p. absurd (apart tight)
    ]

to_tight_row : (P : List ℤ → Type 0) (f : FunctionData) (i j : ℕ) → P [] →
    (IsTight f i j → P (pair_row i j ((i + j) % f.order))) → P (tight_row f i j)
to_tight_row P f i j empty full =
    elim (same_or_apart_z (at f.value i +ℤ at f.value j) (at f.value (i + j)))
    as (λ (b : (at f.value i +ℤ at f.value j ≡ at f.value (i + j))
    ⊎ (at f.value i +ℤ at f.value j ≢ at f.value (i + j))).
    P (elim b as (λ _. List ℤ) [ inl x ↦ pair_row i j ((i + j) % f.order) | inr y ↦ [] ])) [
      | inl x ↦ full x
      | inr apart ↦ empty
    ]

-- ---- whole solutions are perturbations

tight_at_remainders : (f : FunctionData) → IsWithinBounds f → (i j : ℕ) →
    table f 1 i +ℤ table f 1 j ≡ table f 1 (i + j) →
    IsTight f (i % f.order) (j % f.order)
tight_at_remainders f bounds i j h =
    let q = f.order in
    let same = λ (n m : ℕ) (e : n % q ≡ m % q). at_same f.value n m q bounds.value_length e in
    ap₂ (λ x y. x +ℤ y) (same (i % q) i (mod-mod i q)) (same (j % q) j (mod-mod j q))
    ∙ ap₂ (λ x y. x +ℤ y) (sym (table_of_order f i)) (sym (table_of_order f j)) ∙ h
    ∙ table_of_order f (i + j)
    ∙ same (i + j) (i % q + j % q) (sym (mod-add-mod i q (j % q) ∙ add-mod-mod i j q))

whole_is_perturbation : (f : FunctionData) → IsWithinBounds f → (z : ℕ → ℤ) →
    Each (λ row. dot_whole row z ≡ pos 0) (grid_rows f) →
    IsPerturbation (table f 1) (f.order * 1) (f.place * 1) (λ i. z (i % f.order))
whole_is_perturbation f bounds z h =
    let q = f.order in
    let some : 0 < q = omega (arith, bounds.order_low) in
    record {
      at_tight = record {
        has_period =
            λ i. ap z (ap (λ n. n % q) (let e : i + q * 1 ≡ i + q = omega arith in e)
            ∙ add-mod_right i q);
        additive = λ i j tight.
            let a = i % q in
            let b = j % q in
            let rows = of_upto (λ row. dot_whole row z ≡ pos 0) q (λ k. tight_row f a k ∷ [])
            (of_upto (λ row. dot_whole row z ≡ pos 0) q (λ i. upto q (λ j. tight_row f i j ∷ []))
            h.1 a (mod-lt i some)) b (mod-lt j some) in
            let row = of_tight_row (λ row. dot_whole row z ≡ pos 0) f a b
            (tight_at_remainders f bounds i j tight) rows.0 in
            pair_whole a b ((a + b) % q) z row ∙ ap z (mod-add-mod i q b ∙ add-mod-mod i j q);
      };
      zero_at_place =
          ap z (ap (λ n. n % q) (let e : f.place * 1 ≡ f.place = omega arith in e)
          ∙ mod-eq_of_lt bounds.place_high)
          ∙ sym (unit_whole f.place z) ∙ h.0;
    }

module _ {R : Type 0} (K : OrderedField R) where
  open K use {plus, times, zero as o, one as e, negative}

  unit_is : (i : ℕ) (w : ℕ → R) → dot K (unit_row i) w ≡ w i
  unit_is zero w = ring K (w 0 ∷ []) ((nil ⊕ unit) ⊗ var 0 ⊕ nil) (var 0) refl
  unit_is (suc i) w =
      ap (plus (times o (w 0))) (unit_is i (λ j. w (suc j)))
      ∙ ring K (w 0 ∷ w (suc i) ∷ []) (nil ⊗ var 0 ⊕ var 1) (var 1) refl

  pair_is : (i j k : ℕ) (w : ℕ → R) → plus (w i) (w j) ≡ w k → dot K (pair_row i j k) w ≡ o
  pair_is i j k w h =
      combined_row K (pos 1) (combined (pos 1) (unit_row i) (pos 1) (unit_row j)) (negsuc 0)
      (unit_row k) w
      ∙ ap₂ (λ s t. plus (times (plus o e) s) (times (negative (plus o e)) t))
      (combined_row K (pos 1) (unit_row i) (pos 1) (unit_row j) w
      ∙ ap₂ (λ s t. plus (times (plus o e) s) (times (plus o e) t)) (unit_is i w) (unit_is j w))
      (unit_is k w ∙ sym h)
      ∙ ring K (w i ∷ w j ∷ []) ((nil ⊕ unit) ⊗ ((nil ⊕ unit) ⊗ var 0 ⊕ (nil ⊕ unit) ⊗ var 1)
      ⊕ neg (nil ⊕ unit) ⊗ (var 0 ⊕ var 1)) nil refl

  -- numbers for the places below the order, additive at tight pairs and 0 at the place of f, are 0
  -- if the table is extreme
  pub only_zero_on_grid : (f : FunctionData) → IsWithinBounds f →
      HasNoPerturbation (table f 1) (f.order * 1) (f.place * 1) →
      (w : ℕ → R) → ((i : ℕ) → f.order ≤ i → w i ≡ o) → w f.place ≡ o →
      ((i j : ℕ) → i < f.order → j < f.order → IsTight f i j →
      plus (w i) (w j) ≡ w ((i + j) % f.order)) → (i : ℕ) → w i ≡ o
  only_zero_on_grid f bounds none w ends at_place additive =
      ⊎_elim
      (λ solution. absurd (
      let p =
      none (λ i. solution.z (i % f.order))
      (whole_is_perturbation f bounds solution.z solution.solves) solution.index in
      ⊎_elim
      (λ low. solution.some (ap solution.z (sym (mod-eq_of_lt low)) ∙ p))
      (λ high. solution.some (solution.ends solution.index high))
      (cases_lt solution.index f.order)))
      (λ only. only w (
        unit_is f.place w ∙ at_place,
        each_upto (λ row. dot K row w ≡ o) f.order (λ i. upto f.order (λ j. tight_row f i j ∷ []))
            (λ i i_low.
            each_upto (λ row. dot K row w ≡ o) f.order (λ j. tight_row f i j ∷ []) (λ j j_low. (
              to_tight_row (λ row. dot K row w ≡ o) f i j refl
                  (λ tight. pair_is i j ((i + j) % f.order) w (additive i j i_low j_low tight)),
              tt,
            ))),
      )
      ends)
      (whole_or_zero K f.order (grid_rows f))
