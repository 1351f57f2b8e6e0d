-- The system of a function as rows of whole numbers: its solutions in a field, and that one field
-- has only 0 exactly if another has.
use Rattle.std.proofs.Common.{◌≡◌, ◌≢◌, ℕ, zero, suc, ◌+◌, ◌*◌, ◌/◌, ◌%◌, ◌<◌, ◌≤◌, ℤ, pos, negsuc, ◌*ℤ◌, true, false, ltb, lt-ltb, le-ltb, inl, inr, ◌⊎◌, ⊎_elim, List, [], ◌∷◌, ◌++◌, refl, sym, ap, ap₂, ◌∙◌, arith}
use Rattle.std.proofs.Math.Nat.{mod-lt, mod-eq_of_lt, add-mod_right, div-add-mod'}
use Rattle.std.proofs.lemmas.Bool.{cases_lt}
use Rattle.gj_lemmas.proofs.Integers.{same_or_apart_z}
use Rattle.gj_lemmas.proofs.Quotients.{parts_of_place}
use Rattle.gj_shape.specs.FunctionData.{FunctionData, IsWithinBounds}
use Rattle.gj_shape.specs.declared.faces.FaceKind.{FaceKind}
use Rattle.gj_shape.specs.declared.faces.FaceKind.TheVariants.{Vertex, Horizontal, Vertical, Diagonal, Lower, Upper}
use Rattle.gj_fields.specs.Fields.{OrderedField, whole}
use Rattle.gj_fields.proofs.Ring.{ring}
use Rattle.gj_fields.proofs.Ring.Term.{var, nil, unit, neg, ◌⊕◌, ◌⊗◌}
use Rattle.gj_fields.proofs.Wholes.{whole_plus}
use Rattle.gj_shape.specs.Faces.{limits_of}
use Rattle.gj_reals.proofs.RowLists.{unit_row, pair_row, upto, each_upto, of_upto, each-append, each-parts}
use Rattle.gj_reals.proofs.Lift.{dot_whole, dot, Each, combined, combined_row, whole_times, whole_injective, whole_or_zero, HasWholeSolution, HasOnlyZero}
use Rattle.gj_jumps.specs.LimitSystem.{Limits, slack_of, slacks_of, SolvesLimits, HasOnlyZeroLimits}
use Rattle.gj_jumps.proofs.Data.{matched}
use Rattle.gj_jumps.proofs.Terms.{Side, Place, Sum, on, read, sums_of, whole_sum, Fit, matches_from, fit_from, fit_below, read_reduced}
use Rattle.gj_jumps.proofs.Terms.Side.{before, there, behind}

-- ---- columns: the three numbers at each index below the order

abbrev pub number_of_side : Side → ℕ
number_of_side before = 0
number_of_side there = 1
number_of_side behind = 2

abbrev side_of : ℕ → Side
side_of zero = before
side_of (suc zero) = there
side_of (suc (suc n)) = behind

abbrev pub column : ℕ → Place → ℕ
column q p = p.index % q * 3 + number_of_side p.side

side_low : (s : Side) → number_of_side s < 3
side_low before = omega arith
side_low there = omega arith
side_low behind = omega arith

side_back : (s : Side) → side_of (number_of_side s) ≡ s
side_back before = refl
side_back there = refl
side_back behind = refl

number_back : (n : ℕ) → n < 3 → number_of_side (side_of n) ≡ n
number_back zero low = refl
number_back (suc zero) low = refl
number_back (suc (suc zero)) low = refl
number_back (suc (suc (suc n))) low = absurd (omega arith)

column_low : (q : ℕ) (p : Place) → 0 < q → column q p < q * 3
column_low q p some =
    let low = mod-lt p.index some in
    let side = side_low p.side in
    omega (arith, low, side)

-- the row of a sum of limits: a row of zeros if it is not 0
abbrev row_of : FunctionData → Sum → List ℤ
row_of f t = elim (same_or_apart_z (whole_sum f t) (pos 0)) [
  | inl tight ↦ pair_row (column f.order t.first) (column f.order t.second) (column f.order t.third)
  | inr apart ↦ []
]

abbrev rows_of : FunctionData → List Sum → List (List ℤ)
rows_of f [] = []
rows_of f (t ∷ ts) = row_of f t ∷ rows_of f ts

abbrev rows_of_kind : FunctionData → ℕ → ℕ → FaceKind → List (List ℤ)
rows_of_kind f a b kind = rows_of f (sums_of kind a b)

abbrev rows_from_lower : FunctionData → ℕ → ℕ → List (List ℤ)
rows_from_lower f a b = rows_of_kind f a b Lower ++ rows_of_kind f a b Upper

abbrev rows_from_diagonal : FunctionData → ℕ → ℕ → List (List ℤ)
rows_from_diagonal f a b = rows_of_kind f a b Diagonal ++ rows_from_lower f a b

abbrev rows_from_vertical : FunctionData → ℕ → ℕ → List (List ℤ)
rows_from_vertical f a b = rows_of_kind f a b Vertical ++ rows_from_diagonal f a b

abbrev rows_from_horizontal : FunctionData → ℕ → ℕ → List (List ℤ)
rows_from_horizontal f a b = rows_of_kind f a b Horizontal ++ rows_from_vertical f a b

abbrev rows_at : FunctionData → ℕ → ℕ → List (List ℤ)
rows_at f a b = rows_of_kind f a b Vertex ++ rows_from_horizontal f a b

-- the rows of all limits, and that of the value at f
abbrev pub limit_rows : FunctionData → List (List ℤ)
limit_rows f =
    unit_row (column f.order (on there f.place)) ∷ upto f.order
    (λ a. upto f.order (λ b. rows_at f a b))

of_square : (P : List ℤ → Type 0) (f : FunctionData) (a b : ℕ) → Each P (rows_at f a b) →
    (kind : FaceKind) → Each P (rows_of f (sums_of kind a b))
of_square P f a b h =
    let rows = rows_of_kind f a b in
    let first = each-parts P (rows Vertex) (rows_from_horizontal f a b) h in
    let second = each-parts P (rows Horizontal) (rows_from_vertical f a b) first.1 in
    let third = each-parts P (rows Vertical) (rows_from_diagonal f a b) second.1 in
    let fourth = each-parts P (rows Diagonal) (rows_from_lower f a b) third.1 in
    let fifth = each-parts P (rows Lower) (rows Upper) fourth.1 in
    elim [
      | Vertex ↦ first.0
      | Horizontal ↦ second.0
      | Vertical ↦ third.0
      | Diagonal ↦ fourth.0
      | Lower ↦ fifth.0
      | Upper ↦ fifth.1
    ]

to_square : (P : List ℤ → Type 0) (f : FunctionData) (a b : ℕ) →
    ((kind : FaceKind) → Each P (rows_of f (sums_of kind a b))) → Each P (rows_at f a b)
to_square P f a b h =
    let rows = rows_of_kind f a b in
    each-append P (rows Vertex) (rows_from_horizontal f a b) (h Vertex)
    (each-append P (rows Horizontal) (rows_from_vertical f a b) (h Horizontal)
    (each-append P (rows Vertical) (rows_from_diagonal f a b) (h Vertical)
    (each-append P (rows Diagonal) (rows_from_lower f a b) (h Diagonal)
    (each-append P (rows Lower) (rows Upper) (h Lower) (h Upper)))))

of_row : (P : List ℤ → Type 0) (f : FunctionData) (t : Sum) → whole_sum f t ≡ pos 0 →
    P (row_of f t) →
    P (pair_row (column f.order t.first) (column f.order t.second) (column f.order t.third))
of_row P f t tight =
    elim (same_or_apart_z (whole_sum f t) (pos 0))
    as (λ (b : (whole_sum f t ≡ pos 0) ⊎ (whole_sum f t ≢ pos 0)).
    P (elim b as (λ _. List ℤ) [
      | inl x ↦ pair_row (column f.order t.first) (column f.order t.second) (column f.order t.third)
      | inr y ↦ []
    ]) → P (pair_row (column f.order t.first) (column f.order t.second) (column f.order t.third))) [
      | inl x ↦ λ p. p
      | inr apart ↦ λ p. absurd (apart tight)
    ]

to_row : (P : List ℤ → Type 0) (f : FunctionData) (t : Sum) → P [] → (whole_sum f t ≡ pos 0 →
    P (pair_row (column f.order t.first) (column f.order t.second) (column f.order t.third))) →
    P (row_of f t)
to_row P f t empty full =
    elim (same_or_apart_z (whole_sum f t) (pos 0))
    as (λ (b : (whole_sum f t ≡ pos 0) ⊎ (whole_sum f t ≢ pos 0)).
    P (elim b as (λ _. List ℤ) [
      | inl x ↦ pair_row (column f.order t.first) (column f.order t.second) (column f.order t.third)
      | inr y ↦ []
    ])) [
      | inl x ↦ full x
      | inr apart ↦ empty
    ]

module _ {R : Type 0} (K : OrderedField R) where
  open K use {plus, times, zero as o, one as e, negative}

  unit_is : (i : ℕ) (x : ℕ → R) → dot K (unit_row i) x ≡ x i
  unit_is zero x = ring K (x 0 ∷ []) ((nil ⊕ unit) ⊗ var 0 ⊕ nil) (var 0) refl
  unit_is (suc i) x =
      ap (plus (times o (x 0))) (unit_is i (λ j. x (suc j)))
      ∙ ring K (x 0 ∷ x (suc i) ∷ []) (nil ⊗ var 0 ⊕ var 1) (var 1) refl

  pair_is : (i j k : ℕ) (x : ℕ → R) → dot K (pair_row i j k) x ≡ slack_of K (x i) (x j) (x k)
  pair_is i j k x =
      combined_row K (pos 1) (combined (pos 1) (unit_row i) (pos 1) (unit_row j)) (negsuc 0)
      (unit_row k) x
      ∙ ap₂ (λ s t. plus (times (plus o e) s) (times (negative (plus o e)) t))
      (combined_row K (pos 1) (unit_row i) (pos 1) (unit_row j) x
      ∙ ap₂ (λ s t. plus (times (plus o e) s) (times (plus o e) t)) (unit_is i x) (unit_is j x))
      (unit_is k x)
      ∙ ring K (x i ∷ x j ∷ x k ∷ []) ((nil ⊕ unit) ⊗ ((nil ⊕ unit) ⊗ var 0 ⊕ (nil ⊕ unit) ⊗ var 1)
      ⊕ neg (nil ⊕ unit) ⊗ var 2) (var 0 ⊕ var 1 ⊕ neg (var 2)) refl

  dot_of_whole : (row : List ℤ) (z : ℕ → ℤ) →
      dot K row (λ i. whole K (z i)) ≡ whole K (dot_whole row z)
  dot_of_whole [] z = refl
  dot_of_whole (c ∷ cs) z =
      ap₂ plus (sym (whole_times K c (z 0))) (dot_of_whole cs (λ i. z (suc i)))
      ∙ sym (whole_plus K (c *ℤ z 0) (dot_whole cs (λ i. z (suc i))))

  pub rows_of_whole : (z : ℕ → ℤ) (rows : List (List ℤ)) →
      Each (λ row. dot_whole row z ≡ pos 0) rows →
      Each (λ row. dot K row (λ i. whole K (z i)) ≡ o) rows
  rows_of_whole z [] h = tt
  rows_of_whole z (row ∷ rows) h = (dot_of_whole row z ∙ ap (whole K) h.0, rows_of_whole z rows h.1)

module _ {R : Type 0} (K : OrderedField R) (f : FunctionData) (bounds : IsWithinBounds f) where
  open K use {plus, times, zero as o, one as e, negative}

  some : 0 < f.order
  some = omega (arith, bounds.order_low)

  abbrev Zero : (ℕ → R) → List ℤ → Type 0
  Zero x row = dot K row x ≡ o

  -- ---- numbers from entries

  abbrev pub limits_from : (ℕ → R) → Limits R
  limits_from x = record {
    left = λ i. x (column f.order (on before i));
    value = λ i. x (column f.order (on there i));
    right = λ i. x (column f.order (on behind i));
  }

  read_is : (x : ℕ → R) (s : Side) (i : ℕ) →
      read (limits_from x).left (limits_from x).value (limits_from x).right (on s i)
      ≡ x (column f.order (on s i))
  read_is x before i = refl
  read_is x there i = refl
  read_is x behind i = refl

  fit_of_rows : (x : ℕ → R) (ts : List Sum) → Each (Zero x) (rows_of f ts) →
      Fit K f (limits_from x) ts
  fit_of_rows x [] h = tt
  fit_of_rows x (t ∷ ts) h = (
    λ tight. ap₂ (λ s r. plus s (negative r))
        (ap₂ plus (read_is x t.first.side t.first.index) (read_is x t.second.side t.second.index))
        (read_is x t.third.side t.third.index)
        ∙ sym (pair_is K (column f.order t.first) (column f.order t.second)
        (column f.order t.third) x)
        ∙ of_row (Zero x) f t tight h.0,
    fit_of_rows x ts h.1,
  )

  column_turned : (s : Side) (i : ℕ) →
      column f.order (on s (i + f.order)) ≡ column f.order (on s i)
  column_turned s i = ap (λ n. n * 3 + number_of_side s) (add-mod_right i f.order)

  pub rows_solve : (x : ℕ → R) → Each (Zero x) (limit_rows f) → SolvesLimits K f (limits_from x)
  rows_solve x h = record {
    left_period = λ i. ap x (column_turned before i);
    value_period = λ i. ap x (column_turned there i);
    right_period = λ i. ap x (column_turned behind i);
    zero_at_place = sym (unit_is K (column f.order (on there f.place)) x) ∙ h.0;
    at_tight = λ kind a b c tight.
        let q = f.order in
        let square =
        of_upto (Zero x) q (λ y. rows_at f (a % q) y)
        (of_upto (Zero x) q (λ y. upto q (λ z. rows_at f y z)) h.1 (a % q) (mod-lt a some))
        (b % q) (mod-lt b some) in
        matched o (limits_of f kind a b) (slacks_of K (limits_from x) kind a b)
        (matches_from K f (limits_from x) kind a b
        (fit_below K f (limits_from x) bounds (λ i. ap x (column_turned before i))
        (λ i. ap x (column_turned there i)) (λ i. ap x (column_turned behind i)) kind a b
        (fit_of_rows x (sums_of kind (a % q) (b % q))
        (of_square (Zero x) f (a % q) (b % q) square kind)))) c tight;
  }

  -- ---- entries from numbers

  module _ (w : Limits R) (solves : SolvesLimits K f w) where
    abbrev at_column : ℕ → R
    at_column n = read w.left w.value w.right (on (side_of (n % 3)) (n / 3))

    entry : ℕ → R
    entry n = elim (ltb n (f.order * 3)) [ true ↦ at_column n | false ↦ o ]

    entry_low : (n : ℕ) → n < f.order * 3 → entry n ≡ at_column n
    unfolding entry
    entry_low n low =
        ap (λ t. elim t as (λ _. R) [ true ↦ at_column n | false ↦ o ]) (lt-ltb n (f.order * 3) low)

    entry_high : (n : ℕ) → f.order * 3 ≤ n → entry n ≡ o
    unfolding entry
    entry_high n high =
        ap (λ t. elim t as (λ _. R) [ true ↦ at_column n | false ↦ o ])
        (le-ltb n (f.order * 3) high)

    entry_is : (s : Side) (i : ℕ) →
        entry (column f.order (on s i)) ≡ read w.left w.value w.right (on s i)
    entry_is s i =
        let n = column f.order (on s i) in
        let parts = parts_of_place n (i % f.order) 3 (number_of_side s) refl (side_low s) in
        entry_low n (column_low f.order (on s i) some)
        ∙ ap₂ (λ a b. read w.left w.value w.right (on a b))
        (ap side_of parts.1 ∙ side_back s) parts.0
        ∙ read_reduced K f w bounds solves.left_period solves.value_period solves.right_period s i

    rows_zero : (ts : List Sum) → Fit K f w ts → Each (Zero entry) (rows_of f ts)
    rows_zero [] h = tt
    rows_zero (t ∷ ts) h = (
      to_row (Zero entry) f t refl (λ tight.
          pair_is K (column f.order t.first) (column f.order t.second)
          (column f.order t.third) entry
          ∙ ap₂ (λ s r. plus s (negative r))
          (ap₂ plus (entry_is t.first.side t.first.index) (entry_is t.second.side t.second.index))
          (entry_is t.third.side t.third.index)
          ∙ h.0 tight),
      rows_zero ts h.1,
    )

    entries_solve : Each (Zero entry) (limit_rows f)
    entries_solve = (
      unit_is K (column f.order (on there f.place)) entry ∙ entry_is there f.place
          ∙ solves.zero_at_place,
      each_upto (Zero entry) f.order (λ a. upto f.order (λ b. rows_at f a b)) (λ a a_low.
          each_upto (Zero entry) f.order (λ b. rows_at f a b) (λ b b_low.
          to_square (Zero entry) f a b (λ kind.
          rows_zero (sums_of kind a b) (fit_from K f w solves.at_tight kind a b)))),
    )

    pub zero_by_rows : HasOnlyZero K (f.order * 3) (limit_rows f) → (i : ℕ) →
        (w.left i ≡ o) × (w.value i ≡ o) × (w.right i ≡ o)
    zero_by_rows only i =
        let none = only entry entries_solve entry_high in (
          sym (entry_is before i) ∙ none (column f.order (on before i)),
          sym (entry_is there i) ∙ none (column f.order (on there i)),
          sym (entry_is behind i) ∙ none (column f.order (on behind i)),
        )

  -- ---- a solution in whole numbers

  -- one of its entries at the columns of an index is not 0
  pub whole_entry_zero : (h : HasWholeSolution (f.order * 3) (limit_rows f)) →
      ((i : ℕ) → (whole K (h.z (column f.order (on before i))) ≡ o)
      × (whole K (h.z (column f.order (on there i))) ≡ o)
      × (whole K (h.z (column f.order (on behind i))) ≡ o)) → ⊥
  whole_entry_zero h none =
      let q = f.order in
      let x = λ (i : ℕ). whole K (h.z i) in
      let n = h.index in
      let low : n < q * 3 =
      ⊎_elim (λ below. below) (λ high. absurd (h.some (h.ends n high))) (cases_lt n (q * 3)) in
      let rest = mod-lt n (let three : 0 < 3 = omega arith in three) in
      let parts = div-add-mod' n 3 in
      let quotient : n / 3 < q = omega (arith, parts, low, rest) in
      let there_is : column q (on (side_of (n % 3)) (n / 3)) ≡ n =
      ap₂ (λ a b. a * 3 + b) (mod-eq_of_lt quotient) (number_back (n % 3) rest) ∙ parts in
      let by_side : (s : Side) → x (column q (on s (n / 3))) ≡ o = elim [
        | before ↦ (none (n / 3)).0
        | there ↦ (none (n / 3)).1
        | behind ↦ (none (n / 3)).2
      ] in
      h.some (whole_injective K (h.z n) (pos 0) (ap x (sym there_is) ∙ by_side (side_of (n % 3))))

  pub no_whole_solution : HasOnlyZeroLimits K f → HasWholeSolution (f.order * 3) (limit_rows f) → ⊥
  no_whole_solution only h =
      let x = λ (i : ℕ). whole K (h.z i) in
      whole_entry_zero h
      (only (limits_from x) (rows_solve x (rows_of_whole K h.z (limit_rows f) h.solves)))

-- only 0 in one field, only 0 in another
pub same_in_each_field : {R S : Type 0} (K : OrderedField R) (L : OrderedField S)
    (f : FunctionData) →
    IsWithinBounds f → HasOnlyZeroLimits K f → HasOnlyZeroLimits L f
same_in_each_field K L f bounds only w solves =
    zero_by_rows L f bounds w solves
    (⊎_elim (λ solution. absurd (no_whole_solution K f bounds only solution))
    (λ zero_alone. zero_alone)
    (whole_or_zero L (f.order * 3) (limit_rows f)))

-- by rows of whole numbers, and decided
module _ {R : Type 0} (K : OrderedField R) (f : FunctionData) (bounds : IsWithinBounds f) where
  pub only_zero_by_rows : HasOnlyZero K (f.order * 3) (limit_rows f) → HasOnlyZeroLimits K f
  only_zero_by_rows only w solves = zero_by_rows K f bounds w solves only

  pub rows_by_only_zero : HasOnlyZeroLimits K f → HasOnlyZero K (f.order * 3) (limit_rows f)
  rows_by_only_zero only =
      ⊎_elim (λ solution. absurd (no_whole_solution K f bounds only solution))
      (λ zero_alone. zero_alone)
      (whole_or_zero K (f.order * 3) (limit_rows f))

  pub system_decided : HasOnlyZeroLimits K f ⊎ (HasOnlyZeroLimits K f → ⊥)
  system_decided =
      ⊎_elim (λ solution. inr (λ only. no_whole_solution K f bounds only solution))
      (λ zero_alone. inl (only_zero_by_rows zero_alone))
      (whole_or_zero K (f.order * 3) (limit_rows f))
