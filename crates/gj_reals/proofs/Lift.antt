-- A linear system with whole coefficients that is solved by 0 alone in whole numbers is so in the
-- numbers of each field.
use Rattle.std.proofs.Common.{◌≡◌, ◌≢◌, ℕ, zero, suc, ◌*◌, ◌≤◌, ℤ, pos, negsuc, neg_ℤ, ◌+ℤ◌, ◌*ℤ◌, ◌⊎◌, inl, inr, ⊎_elim, List, [], ◌∷◌, refl, sym, ap, ap₂, ◌∙◌, arith}
use Rattle.std.proofs.lemmas.Int.{ints}
use Rattle.gj_lemmas.proofs.Integers.{same_or_apart_z, mul_cancel_left_z, abs_zero_z}
use Rattle.gj_lemmas.proofs.Ring as whole_ring
use Rattle.gj_fields.specs.Fields.{OrderedField, number, whole}
use Rattle.gj_fields.proofs.Ring.{ring, times_zero}
use Rattle.gj_fields.proofs.Ring.Term.{var, nil, neg, ◌⊕◌, ◌⊗◌}
use Rattle.gj_fields.proofs.Order.{le_of_eq}
use Rattle.gj_fields.proofs.Wholes.{whole_plus, whole_order}
pub use Rattle.gj_fields.proofs.Wholes.{whole_times}

-- ---- products

module _ {R : Type 0} (K : OrderedField R) where
  open K use {plus, times, zero as o, one as e, negative}

  pub whole_negative : (z : ℤ) → whole K (neg_ℤ z) ≡ negative (whole K z)
  whole_negative (pos zero) = ring K [] nil (neg nil) refl
  whole_negative (pos (suc n)) = refl
  whole_negative (negsuc n) = ring K (number K (suc n) ∷ []) (var 0) (neg (neg (var 0))) refl

  pub whole_injective : (x y : ℤ) → whole K x ≡ whole K y → x ≡ y
  whole_injective x y h =
      let first = whole_order K x y (le_of_eq K (whole K x) (whole K y) h) in
      let second = whole_order K y x (le_of_eq K (whole K y) (whole K x) (sym h)) in
      omega (arith, ints)

  -- a product is 0 only if a factor is
  pub zero_factor : (x y : R) → x ≢ o → times x y ≡ o → y ≡ o
  zero_factor x y some h =
      sym (K.times_one y) ∙ ap (times y) (sym (K.times_inverse x some))
      ∙ ring K (x ∷ y ∷ K.inverse x ∷ []) (var 1 ⊗ (var 0 ⊗ var 2)) (var 2 ⊗ (var 0 ⊗ var 1)) refl
      ∙ ap (times (K.inverse x)) h ∙ times_zero K (K.inverse x)

-- ---- rows

-- entries past the end of a row are 0
abbrev pub first_of_row : List ℤ → ℤ
first_of_row [] = pos 0
first_of_row (c ∷ cs) = c

abbrev pub rest_of_row : List ℤ → List ℤ
rest_of_row [] = []
rest_of_row (c ∷ cs) = cs

abbrev pub dot_whole : List ℤ → (ℕ → ℤ) → ℤ
dot_whole [] z = pos 0
dot_whole (c ∷ cs) z = c *ℤ z 0 +ℤ dot_whole cs (λ i. z (suc i))

abbrev pub dot : {R : Type 0} → OrderedField R → List ℤ → (ℕ → R) → R
dot K [] w = K.zero
dot K (c ∷ cs) w = K.plus (K.times (whole K c) (w 0)) (dot K cs (λ i. w (suc i)))

abbrev pub Each : (List ℤ → Type 0) → List (List ℤ) → Type 0
Each P [] = Unit {0}
Each P (row ∷ rows) = P row × Each P rows

-- c times the one row and a times the other
abbrev pub combined : ℤ → List ℤ → ℤ → List ℤ → List ℤ
combined c [] a [] = []
combined c (x ∷ s) a [] = (c *ℤ x) ∷ combined c s a []
combined c [] a (y ∷ r) = (a *ℤ y) ∷ combined c [] a r
combined c (x ∷ s) a (y ∷ r) = (c *ℤ x +ℤ a *ℤ y) ∷ combined c s a r

split_whole : (row : List ℤ) (z : ℕ → ℤ) →
    dot_whole row z ≡ first_of_row row *ℤ z 0 +ℤ dot_whole (rest_of_row row) (λ i. z (suc i))
split_whole [] z = whole_ring.by_ring (z 0 ∷ []) (search whole_ring.ring depth 20) refl
split_whole (c ∷ cs) z = refl

pub combined_whole : (c : ℤ) (s : List ℤ) (a : ℤ) (r : List ℤ) (z : ℕ → ℤ) →
    dot_whole (combined c s a r) z ≡ c *ℤ dot_whole s z +ℤ a *ℤ dot_whole r z
combined_whole c [] a [] z = whole_ring.by_ring (c ∷ a ∷ []) (search whole_ring.ring depth 20) refl
combined_whole c (x ∷ s) a [] z =
    ap (λ t. (c *ℤ x) *ℤ z 0 +ℤ t) (combined_whole c s a [] (λ i. z (suc i)))
    ∙ whole_ring.by_ring (c ∷ x ∷ z 0 ∷ dot_whole s (λ i. z (suc i)) ∷ a ∷ [])
    (search whole_ring.ring depth 30) refl
combined_whole c [] a (y ∷ r) z =
    ap (λ t. (a *ℤ y) *ℤ z 0 +ℤ t) (combined_whole c [] a r (λ i. z (suc i)))
    ∙ whole_ring.by_ring (c ∷ y ∷ z 0 ∷ dot_whole r (λ i. z (suc i)) ∷ a ∷ [])
    (search whole_ring.ring depth 30) refl
combined_whole c (x ∷ s) a (y ∷ r) z =
    ap (λ t. (c *ℤ x +ℤ a *ℤ y) *ℤ z 0 +ℤ t) (combined_whole c s a r (λ i. z (suc i)))
    ∙ whole_ring.by_ring (c ∷ x ∷ y ∷ z 0 ∷ dot_whole s (λ i. z (suc i))
    ∷ dot_whole r (λ i. z (suc i)) ∷ a ∷ []) (search whole_ring.ring depth 30) refl

first_combined : (c : ℤ) (s : List ℤ) (a : ℤ) (r : List ℤ) →
    first_of_row (combined c s a r) ≡ c *ℤ first_of_row s +ℤ a *ℤ first_of_row r
first_combined c [] a [] = whole_ring.by_ring (c ∷ a ∷ []) (search whole_ring.ring depth 20) refl
first_combined c (x ∷ s) a [] =
    whole_ring.by_ring (c ∷ x ∷ a ∷ []) (search whole_ring.ring depth 20) refl
first_combined c [] a (y ∷ r) =
    whole_ring.by_ring (c ∷ y ∷ a ∷ []) (search whole_ring.ring depth 20) refl
first_combined c (x ∷ s) a (y ∷ r) = refl

dot_scaled : (row : List ℤ) (c : ℤ) (z : ℕ → ℤ) →
    dot_whole row (λ i. c *ℤ z i) ≡ c *ℤ dot_whole row z
dot_scaled [] c z = whole_ring.by_ring (c ∷ []) (search whole_ring.ring depth 20) refl
dot_scaled (x ∷ xs) c z =
    ap (λ t. x *ℤ (c *ℤ z 0) +ℤ t) (dot_scaled xs c (λ i. z (suc i)))
    ∙ whole_ring.by_ring (x ∷ c ∷ z 0 ∷ dot_whole xs (λ i. z (suc i)) ∷ [])
    (search whole_ring.ring depth 20) refl

dot_zeros : (row : List ℤ) (z : ℕ → ℤ) → ((i : ℕ) → z i ≡ pos 0) → dot_whole row z ≡ pos 0
dot_zeros [] z h = refl
dot_zeros (x ∷ xs) z h =
    ap₂ (λ s t. x *ℤ s +ℤ t) (h 0) (dot_zeros xs (λ i. z (suc i)) (λ i. h (suc i)))
    ∙ whole_ring.by_ring (x ∷ []) (search whole_ring.ring depth 20) refl

module _ {R : Type 0} (K : OrderedField R) where
  open K use {plus, times, zero as o, one as e, negative}

  split_row : (row : List ℤ) (w : ℕ → R) →
      dot K row w ≡ plus (times (whole K (first_of_row row)) (w 0))
      (dot K (rest_of_row row) (λ i. w (suc i)))
  split_row [] w = ring K (w 0 ∷ []) nil (nil ⊗ var 0 ⊕ nil) refl
  split_row (c ∷ cs) w = refl

  pub combined_row : (c : ℤ) (s : List ℤ) (a : ℤ) (r : List ℤ) (w : ℕ → R) →
      dot K (combined c s a r) w ≡ plus (times (whole K c) (dot K s w))
      (times (whole K a) (dot K r w))
  combined_row c [] a [] w =
      ring K (whole K c ∷ whole K a ∷ []) nil (var 0 ⊗ nil ⊕ var 1 ⊗ nil) refl
  combined_row c (x ∷ s) a [] w =
      ap₂ (λ v t. plus (times v (w 0)) t) (whole_times K c x)
      (combined_row c s a [] (λ i. w (suc i)))
      ∙ ring K (whole K c ∷ whole K x ∷ w 0 ∷ dot K s (λ i. w (suc i)) ∷ whole K a ∷ [])
      (var 0 ⊗ var 1 ⊗ var 2 ⊕ (var 0 ⊗ var 3 ⊕ var 4 ⊗ nil))
      (var 0 ⊗ (var 1 ⊗ var 2 ⊕ var 3) ⊕ var 4 ⊗ nil) refl
  combined_row c [] a (y ∷ r) w =
      ap₂ (λ v t. plus (times v (w 0)) t) (whole_times K a y)
      (combined_row c [] a r (λ i. w (suc i)))
      ∙ ring K (whole K c ∷ whole K y ∷ w 0 ∷ dot K r (λ i. w (suc i)) ∷ whole K a ∷ [])
      (var 4 ⊗ var 1 ⊗ var 2 ⊕ (var 0 ⊗ nil ⊕ var 4 ⊗ var 3))
      (var 0 ⊗ nil ⊕ var 4 ⊗ (var 1 ⊗ var 2 ⊕ var 3)) refl
  combined_row c (x ∷ s) a (y ∷ r) w =
      ap₂ (λ v t. plus (times v (w 0)) t)
      (whole_plus K (c *ℤ x) (a *ℤ y) ∙ ap₂ plus (whole_times K c x) (whole_times K a y))
      (combined_row c s a r (λ i. w (suc i)))
      ∙ ring K (whole K c ∷ whole K x ∷ w 0 ∷ dot K s (λ i. w (suc i)) ∷ whole K a ∷ whole K y
      ∷ dot K r (λ i. w (suc i)) ∷ [])
      ((var 0 ⊗ var 1 ⊕ var 4 ⊗ var 5) ⊗ var 2 ⊕ (var 0 ⊗ var 3 ⊕ var 4 ⊗ var 6))
      (var 0 ⊗ (var 1 ⊗ var 2 ⊕ var 3) ⊕ var 4 ⊗ (var 5 ⊗ var 2 ⊕ var 6)) refl

  zeros_row : (row : List ℤ) (w : ℕ → R) → ((i : ℕ) → w i ≡ o) → dot K row w ≡ o
  zeros_row [] w h = refl
  zeros_row (x ∷ xs) w h =
      ap₂ (λ s t. plus (times (whole K x) s) t) (h 0)
      (zeros_row xs (λ i. w (suc i)) (λ i. h (suc i)))
      ∙ ring K (whole K x ∷ []) (var 0 ⊗ nil ⊕ nil) nil refl

-- ---- elimination of the first column

-- the row without its first column
abbrev reduced_row : List ℤ → List ℤ → List ℤ
reduced_row r s = rest_of_row (combined (first_of_row r) s (neg_ℤ (first_of_row s)) r)

abbrev reduced_rows : List ℤ → List (List ℤ) → List (List ℤ)
reduced_rows r [] = []
reduced_rows r (s ∷ rows) = reduced_row r s ∷ reduced_rows r rows

first_gone : (r s : List ℤ) → first_of_row (combined (first_of_row r) s (neg_ℤ (first_of_row s)) r)
    ≡ pos 0
first_gone r s =
    first_combined (first_of_row r) s (neg_ℤ (first_of_row s)) r
    ∙ whole_ring.by_ring (first_of_row r ∷ first_of_row s ∷ []) (search whole_ring.ring depth 20)
    refl

-- a whole solution that is not 0: with no entries from n on
pub record HasWholeSolution (n : ℕ) (rows : List (List ℤ)) : Type 0 where
  pub z : ℕ → ℤ
  pub solves : Each (λ row. dot_whole row z ≡ pos 0) rows
  pub ends : (i : ℕ) → n ≤ i → z i ≡ pos 0
  pub index : ℕ
  pub some : z index ≢ pos 0

module _ {R : Type 0} (K : OrderedField R) where
  open K use {plus, times, zero as o, one as e, negative}

  abbrev pub SolveRows : (ℕ → R) → List (List ℤ) → Type 0
  SolveRows w rows = Each (λ row. dot K row w ≡ o) rows

  -- only 0 solves the rows in the field
  abbrev pub HasOnlyZero : ℕ → List (List ℤ) → Type 0
  HasOnlyZero n rows =
      (w : ℕ → R) → SolveRows w rows → ((i : ℕ) → n ≤ i → w i ≡ o) → (i : ℕ) → w i ≡ o

  -- a row with an entry in the first column, or none
  data Pivot (rows : List (List ℤ)) : Type 0 where
    none : Each (λ row. first_of_row row ≡ pos 0) rows → Pivot rows
    some : (r : List ℤ) → first_of_row r ≢ pos 0 →
        ((z : ℕ → ℤ) → Each (λ row. dot_whole row z ≡ pos 0) rows → dot_whole r z ≡ pos 0) →
        ((w : ℕ → R) → SolveRows w rows → dot K r w ≡ o) → Pivot rows

  pivot_of : (rows : List (List ℤ)) → Pivot rows
  pivot_of [] = none tt
  pivot_of (s ∷ rows) = elim (same_or_apart_z (first_of_row s) (pos 0)) [
    | inl zero_there ↦ elim (pivot_of rows) [
      | none each ↦ none (zero_there, each)
      | some r apart first second ↦ some r apart (λ z h. first z h.1) (λ w h. second w h.1)
    ]
    | inr apart ↦ some s apart (λ z h. h.0) (λ w h. h.0)
  ]

  -- a solution of the rows solves the reduced rows
  reduced_solve : (r : List ℤ) (w : ℕ → R) → dot K r w ≡ o → (rows : List (List ℤ)) →
      SolveRows w rows →
      SolveRows (λ i. w (suc i)) (reduced_rows r rows)
  reduced_solve r w r_is [] h = tt
  reduced_solve r w r_is (s ∷ rows) h =
      let c = first_of_row r in
      let a = neg_ℤ (first_of_row s) in
      let t = combined c s a r in (
        ring K (dot K (rest_of_row t) (λ i. w (suc i)) ∷ w 0 ∷ []) (var 0) (nil ⊗ var 1 ⊕ var 0)
            refl
            ∙ ap (λ v. plus (times v (w 0)) (dot K (rest_of_row t) (λ i. w (suc i))))
            (sym (ap (whole K) (first_gone r s)))
            ∙ sym (split_row K t w) ∙ combined_row K c s a r w
            ∙ ap₂ (λ u v. plus (times (whole K c) u) (times (whole K a) v)) h.0 r_is
            ∙ ring K (whole K c ∷ whole K a ∷ []) (var 0 ⊗ nil ⊕ var 1 ⊗ nil) nil refl,
        reduced_solve r w r_is rows h.1,
      )

  only_zero : (n : ℕ) (r : List ℤ) (rows : List (List ℤ)) → first_of_row r ≢ pos 0 →
      ((w : ℕ → R) → SolveRows w rows → dot K r w ≡ o) → HasOnlyZero n (reduced_rows r rows) →
      HasOnlyZero (suc n) rows
  only_zero n r rows apart second h w solves ends =
      let r_is = second w solves in
      let later = h (λ i. w (suc i)) (reduced_solve r w r_is rows solves)
      (λ i low. ends (suc i) (omega arith)) in
      let product : times (whole K (first_of_row r)) (w 0) ≡ o =
      sym (K.plus_zero (times (whole K (first_of_row r)) (w 0)))
      ∙ ap (plus (times (whole K (first_of_row r)) (w 0)))
      (sym (zeros_row K (rest_of_row r) (λ i. w (suc i)) later))
      ∙ sym (split_row K r w) ∙ r_is in
      let first : w 0 ≡ o =
      zero_factor K (whole K (first_of_row r)) (w 0)
      (λ flat. apart (whole_injective K (first_of_row r) (pos 0) flat)) product in
      elim [ zero ↦ first | suc i ↦ later i ]

  -- ---- whole solutions

  -- 1 and then 0
  abbrev unit_vector : ℕ → ℤ
  unit_vector zero = pos 1
  unit_vector (suc i) = pos 0

  by_unit : (rows : List (List ℤ)) → Each (λ row. first_of_row row ≡ pos 0) rows →
      Each (λ row. dot_whole row unit_vector ≡ pos 0) rows
  by_unit [] h = tt
  by_unit (s ∷ rows) h = (
    split_whole s unit_vector
        ∙ ap₂ (λ x y. x *ℤ pos 1 +ℤ y) h.0
        (dot_zeros (rest_of_row s) (λ i. unit_vector (suc i)) (λ i. refl)),
    by_unit rows h.1,
  )

  -- a solution of the reduced rows times the pivot, and before it what solves the pivot's row
  abbrev lifted : List ℤ → (ℕ → ℤ) → ℕ → ℤ
  lifted r z zero = neg_ℤ (dot_whole (rest_of_row r) z)
  lifted r z (suc i) = first_of_row r *ℤ z i

  lifted_at_pivot : (r : List ℤ) (z : ℕ → ℤ) → dot_whole r (lifted r z) ≡ pos 0
  lifted_at_pivot r z =
      let c = first_of_row r in
      let d = dot_whole (rest_of_row r) z in
      split_whole r (lifted r z) ∙ ap (λ t. c *ℤ neg_ℤ d +ℤ t) (dot_scaled (rest_of_row r) c z)
      ∙ whole_ring.by_ring (c ∷ d ∷ []) (search whole_ring.ring depth 20) refl

  lifted_solve : (r : List ℤ) (z : ℕ → ℤ) → first_of_row r ≢ pos 0 → (rows : List (List ℤ)) →
      Each (λ row. dot_whole row z ≡ pos 0) (reduced_rows r rows) →
      Each (λ row. dot_whole row (lifted r z) ≡ pos 0) rows
  lifted_solve r z apart [] h = tt
  lifted_solve r z apart (s ∷ rows) h =
      let c = first_of_row r in
      let a = neg_ℤ (first_of_row s) in
      let t = combined c s a r in
      let x = dot_whole s (lifted r z) in
      let whole_is : c *ℤ x +ℤ a *ℤ pos 0 ≡ pos 0 =
      ap (λ y. c *ℤ x +ℤ a *ℤ y) (sym (lifted_at_pivot r z))
      ∙ sym (combined_whole c s a r (lifted r z))
      ∙ split_whole t (lifted r z)
      ∙ ap₂ (λ u v. u *ℤ lifted r z 0 +ℤ v) (first_gone r s)
      (dot_scaled (rest_of_row t) c z ∙ ap (λ y. c *ℤ y) h.0)
      ∙ whole_ring.by_ring (c ∷ lifted r z 0 ∷ []) (search whole_ring.ring depth 20) refl in
      let product : c *ℤ x ≡ c *ℤ pos 0 =
      whole_ring.by_ring (c ∷ x ∷ a ∷ []) (search whole_ring.ring depth 20) refl ∙ whole_is
      ∙ whole_ring.by_ring (c ∷ []) (search whole_ring.ring depth 20) refl in (
        mul_cancel_left_z x (pos 0) c product (λ none. apart (abs_zero_z c none)),
        lifted_solve r z apart rows h.1,
      )

  lifted_solution : (n : ℕ) (r : List ℤ) (rows : List (List ℤ)) → first_of_row r ≢ pos 0 →
      HasWholeSolution n (reduced_rows r rows) →
      HasWholeSolution (suc n) rows
  lifted_solution n r rows apart h = record {
    z = lifted r h.z;
    solves = lifted_solve r h.z apart rows h.solves;
    ends = elim [
      | zero ↦ λ low. absurd (omega arith)
      | suc i ↦ λ low. ap (λ y. first_of_row r *ℤ y) (h.ends i (omega arith))
          ∙ whole_ring.by_ring (first_of_row r ∷ []) (search whole_ring.ring depth 20) refl
    ];
    index = suc h.index;
    some = λ flat. h.some (mul_cancel_left_z (h.z h.index) (pos 0) (first_of_row r)
        (flat ∙ whole_ring.by_ring (first_of_row r ∷ []) (search whole_ring.ring depth 20) refl)
        (λ none. apart (abs_zero_z (first_of_row r) none)));
  }

  -- rows have a whole solution that is not 0, or only 0 in the field
  pub whole_or_zero : (n : ℕ) (rows : List (List ℤ)) → HasWholeSolution n rows ⊎ HasOnlyZero n rows
  whole_or_zero zero rows = inr (λ w solves ends i. ends i (omega arith))
  whole_or_zero (suc n) rows = elim (pivot_of rows) [
    | none each ↦ inl (record {
      z = unit_vector;
      solves = by_unit rows each;
      ends = elim [ zero ↦ λ low. absurd (omega arith) | suc i ↦ λ low. refl ];
      index = 0;
      some = λ h. omega (arith, ints);
    })
    | some r apart first second ↦ ⊎_elim
        (λ solution. inl (lifted_solution n r rows apart solution))
        (λ only. inr (only_zero n r rows apart second only))
        (whole_or_zero n (reduced_rows r rows))
  ]
