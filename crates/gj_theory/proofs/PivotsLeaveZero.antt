-- As many rows with different pivots as columns leave only 0, of whole numbers and modulo a number.
use Rattle.std.proofs.Common.{◌≡◌, ◌≢◌, ℕ, zero, suc, ◌+◌, ◌<◌, ◌≤◌, ◌⊎◌, inl, inr, false, true, eqb, ℤ, pos, ◌+ℤ◌, ◌-ℤ◌, ◌*ℤ◌, List, [], ◌∷◌, All, length, refl, ap, sym, subst, ◌∙◌, arith}
use Rattle.std.specs.List.{AllByRecursion, IsDistinct, list_any}
use Rattle.std.proofs.lemmas.Bool.{cases_eq, cases_lt, eqb-true, ne_eqb}
use Rattle.std.proofs.lemmas.Int.{ints}
use Rattle.std.proofs.lemmas.List.{get_or_past}
use Rattle.std.proofs.lemmas.List.Elements.{All-from_recursion, All-from_get_or}
use Rattle.std.proofs.lemmas.List.Folds.{Any-from_list_any}
use Rattle.std.proofs.lemmas.Map.Keys.{IsDistinct-cons}
use Rattle.std.proofs.lemmas.Map.Steps.{length-le_from_distinct_below}
use Rattle.gj_lemmas.proofs.Integers.{mul_cancel_left_z, mul_comm_z, abs_zero_z}
use Rattle.gj_shape.specs.Elimination.{at_column}
use Rattle.gj_shape.specs.SlopeRows.{sum_of_products}
use Rattle.gj_theory.specs.PivotRows.{HavePivotsBy}
use Rattle.gj_theory.proofs.CarriedSteps.{all_of_any}

-- ---- each column is a pivot

-- the pivots of the first rows, from the last
pivots : (ℕ → ℕ) → ℕ → List ℕ
pivots pivot zero = []
pivots pivot (suc g) = pivot g ∷ pivots pivot g

pivot_count : (pivot : ℕ → ℕ) (g : ℕ) → length (pivots pivot g) ≡ g
unfolding pivots
pivot_count pivot zero = refl
pivot_count pivot (suc g) = ap suc (pivot_count pivot g)

each_pivot : (P : ℕ → Type 0) (pivot : ℕ → ℕ) (g : ℕ) → ((h : ℕ) → h < g → P (pivot h)) →
    AllByRecursion P (pivots pivot g)
unfolding pivots
each_pivot P pivot zero each = tt
each_pivot P pivot (suc g) each =
    (each g (omega arith), each_pivot P pivot g (λ h low. each h (omega arith)))

pivots_distinct : (pivot : ℕ → ℕ) (n : ℕ) → ((g h : ℕ) → g < h → h < n → pivot g ≢ pivot h) →
    (g : ℕ) → g ≤ n → IsDistinct eqb (pivots pivot g)
unfolding pivots IsDistinct
pivots_distinct pivot n different zero low = tt
pivots_distinct pivot n different (suc g) low =
    IsDistinct-cons eqb (pivot g) (pivots pivot g)
    (each_pivot (λ y. eqb (pivot g) y ≡ false) pivot g
    (λ h below. ne_eqb (pivot g) (pivot h) (λ e. different h g below (omega arith) (sym e))))
    (pivots_distinct pivot n different g (omega arith))

-- one of the first rows has its pivot at the column, or none has
find_pivot : (pivot : ℕ → ℕ) (c g : ℕ) →
    ((h : ℕ) × (h < g) × (pivot h ≡ c)) ⊎ ((h : ℕ) → h < g → pivot h ≢ c)
find_pivot pivot c zero = inr (λ h low. absurd (omega arith))
find_pivot pivot c (suc g) =
    elim (cases_eq (pivot g) c) [
      | inl e ↦ inl (g, omega arith, e)
      | inr ne ↦ elim (find_pivot pivot c g) [
        | inl found ↦ inl (found.0, (let low = found.1 in omega arith), found.2)
        | inr none ↦ inr (λ h low. elim (cases_eq h g) [
          | inl e ↦ subst (λ (k : ℕ). pivot k ≢ c) (sym e) ne
          | inr other ↦ none h (omega arith)
        ])
      ]
    ]

-- n different pivots below n are all columns
pub find_pivot_below : (n : ℕ) (pivot : ℕ → ℕ) (c : ℕ) → ((g : ℕ) → g < n → pivot g < n) →
    ((g h : ℕ) → g < h → h < n → pivot g ≢ pivot h) → c < n → (g : ℕ) × (g < n) × (pivot g ≡ c)
find_pivot_below n pivot c inside different within =
    elim (find_pivot pivot c n) [
      | inl found ↦ found
      | inr none ↦
          let columns = c ∷ pivots pivot n in
          let distinct = IsDistinct-cons eqb c (pivots pivot n)
          (each_pivot (λ y. eqb c y ≡ false) pivot n
          (λ h low. ne_eqb c (pivot h) (λ e. none h low (sym e))))
          (pivots_distinct pivot n different n (omega arith)) in
          let below : All (λ x. x < n) columns =
          All-from_recursion (λ x. x < n) columns
          (within, each_pivot (λ x. x < n) pivot n inside) in
          let member = λ (q : ℕ) (e : list_any (eqb q) columns ≡ true).
          let found = all_of_any (λ x. x < n) (λ x. eqb q x ≡ true) columns below
          (Any-from_list_any (eqb q) columns e) in
          subst (λ (x : ℕ). x < n) (sym (eqb-true q found.0 found.2)) found.1 in
          let long : suc (length (pivots pivot n)) ≤ n =
          length-le_from_distinct_below columns n distinct member in
          let count = pivot_count pivot n in
          absurd (omega arith)
    ]

-- ---- what counts as 0

-- numbers that count as 0, and those that are cancelled as factors of them
pub record CancelsZero (is_zero is_pivot : ℤ → Type 0) : Type 0 where
  pub none : is_zero (pos 0)
  pub difference : (x y : ℤ) → is_zero x → is_zero y → is_zero (x -ℤ y)
  pub times : (u x : ℤ) → is_zero x → is_zero (u *ℤ x)
  pub cancel : (x v : ℤ) → is_pivot x → is_zero (x *ℤ v) → is_zero v

pub whole_cancels : CancelsZero (λ x. x ≡ pos 0) (λ x. x ≢ pos 0)
whole_cancels = record {
  none = refl;
  difference = λ x y e h. omega (arith, ints);
  times = λ u x e. ap (λ z. u *ℤ z) e ∙ omega (arith, ints);
  cancel = λ x v some e.
      let none : x *ℤ pos 0 ≡ pos 0 = omega (arith, ints) in
      mul_cancel_left_z v (pos 0) x (e ∙ sym none) (λ z. some (abs_zero_z x z));
}

sum_zero : {Z P : ℤ → Type 0} (h : CancelsZero Z P) (x y z : ℤ) → x +ℤ y ≡ z → Z x → Z y → Z z
sum_zero {Z = Z} h x y z e first second =
    let same : x -ℤ (pos 0 -ℤ y) ≡ z = omega (arith, ints) in
    subst Z same (h.difference x (pos 0 -ℤ y) first (h.difference (pos 0) y h.none second))

-- ---- the sum of products, if all but one are 0

pub no_products : {Z P : ℤ → Type 0} (h : CancelsZero Z P) (row numbers : List ℤ) →
    ((d : ℕ) → Z (at_column numbers d)) →
    Z (sum_of_products row numbers)
no_products h [] numbers zeros = h.none
no_products h (x ∷ row) [] zeros = h.none
no_products h (x ∷ row) (y ∷ numbers) zeros =
    sum_zero h (x *ℤ y) (sum_of_products row numbers) _ refl (h.times x y (zeros 0))
    (no_products h row numbers (λ d. zeros (suc d)))

one_product : {Z P : ℤ → Type 0} (h : CancelsZero Z P) (row numbers : List ℤ) (c : ℕ) →
    ((d : ℕ) → d < c → Z (at_column row d)) →
    ((d : ℕ) → c < d → Z (at_column numbers d)) →
    Z (sum_of_products row numbers -ℤ at_column row c *ℤ at_column numbers c)
one_product {Z = Z} h [] numbers c before behind =
    let none : pos 0 ≡ pos 0 -ℤ pos 0 *ℤ at_column numbers c = omega (arith, ints) in
    subst Z none h.none
one_product {Z = Z} h (x ∷ row) [] c before behind =
    let none : pos 0 ≡ pos 0 -ℤ at_column (x ∷ row) c *ℤ pos 0 = omega (arith, ints) in
    subst Z none h.none
one_product {Z = Z} h (x ∷ row) (y ∷ numbers) zero before behind =
    let s = sum_of_products row numbers in
    let same : s ≡ (x *ℤ y +ℤ s) -ℤ x *ℤ y = omega (arith, ints) in
    subst Z same (no_products h row numbers (λ d. behind (suc d) (omega arith)))
one_product h (x ∷ row) (y ∷ numbers) (suc c) before behind =
    let s = sum_of_products row numbers in
    let p = at_column row c *ℤ at_column numbers c in
    let turned = mul_comm_z x y in
    sum_zero h (y *ℤ x) (s -ℤ p) ((x *ℤ y +ℤ s) -ℤ p) (omega (arith, ints))
    (h.times y x (before 0 (omega arith)))
    (one_product h row numbers c (λ d low. before (suc d) (omega arith))
    (λ d high. behind (suc d) (omega arith)))

pub only_term : (row w : List ℤ) (c : ℕ) → ((j : ℕ) → j < c → at_column row j ≡ pos 0) →
    ((j : ℕ) → c < j → at_column w j ≡ pos 0) →
    sum_of_products row w ≡ at_column row c *ℤ at_column w c
only_term row w c before behind = let apart = one_product whole_cancels row w c before behind in
    omega (arith, ints)

-- ---- from the last column down

zero_from : {Z P : ℤ → Type 0} (h : CancelsZero Z P) (n : ℕ) (row : ℕ → List ℤ) (pivot : ℕ → ℕ)
    (numbers : List ℤ) →
    HavePivotsBy Z P n row pivot → length numbers ≡ n →
    ((g : ℕ) → g < n → Z (sum_of_products (row g) numbers)) →
    (k c : ℕ) → n ≤ c + k → Z (at_column numbers c)
zero_from {Z = Z} h n row pivot numbers rows long solved zero c high =
    subst Z (sym (get_or_past numbers c (pos 0) (omega arith))) h.none
zero_from {Z = Z} {P = P} h n row pivot numbers rows long solved (suc k) c high =
    let behind = λ (d : ℕ) (later : c < d). zero_from h n row pivot numbers rows long solved k d
    (omega arith) in
    elim (cases_lt c n) [
      | inr past ↦ subst Z (sym (get_or_past numbers c (pos 0) (omega arith))) h.none
      | inl within ↦
          let found = find_pivot_below n pivot c rows.within rows.different within in
          let own = row found.0 in
          let sum = sum_of_products own numbers in
          let product = at_column own c *ℤ at_column numbers c in
          let before = λ (d : ℕ) (low : d < c). rows.zero_before found.0 d found.1
          (subst (λ (x : ℕ). d < x) (sym found.2) low) in
          let same : sum -ℤ (sum -ℤ product) ≡ product = omega (arith, ints) in
          h.cancel (at_column own c) (at_column numbers c)
          (subst (λ (x : ℕ). P (at_column own x)) found.2 (rows.at_pivot found.0 found.1))
          (subst Z same (h.difference sum (sum -ℤ product) (solved found.0 found.1)
          (one_product h own numbers c before behind)))
    ]

pub only_zero : {Z P : ℤ → Type 0} (h : CancelsZero Z P) (n : ℕ) (row : ℕ → List ℤ) (pivot : ℕ → ℕ)
    (numbers : List ℤ) →
    HavePivotsBy Z P n row pivot → length numbers ≡ n →
    ((g : ℕ) → g < n → Z (sum_of_products (row g) numbers)) → All Z numbers
only_zero {Z = Z} h n row pivot numbers rows long solved =
    All-from_get_or Z numbers (pos 0)
    (λ c low. zero_from h n row pivot numbers rows long solved n c (omega arith))
