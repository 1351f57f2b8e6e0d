-- What the rows of entries and of sums are, multiplied by a list of numbers.
use Rattle.std.proofs.Common.{◌≡◌, ℕ, suc, inl, inr, ◌+◌, ◌-◌, ◌%◌, ◌<◌, ◌≤◌, if◌then◌else◌, ℤ, pos, ◌+ℤ◌, ◌-ℤ◌, ◌*ℤ◌, List, [], ◌∷◌, length, map, get_or, refl, sym, ap, ap₂, ◌∙◌, arith}
use Rattle.std.specs.List.{range_with_len}
use Rattle.std.proofs.lemmas.Bool.{cases_eq, eq-eqb, ne_eqb}
use Rattle.std.proofs.lemmas.Int.{ints}
use Rattle.gj_lemmas.proofs.Ring.{by_ring, ring}
use Rattle.gj_shape.specs.SlopeRows.{sum_of_products}
use Rattle.gj_group.specs.GroupRows.{one_at, entry_row, sum_row}

-- the row with the entries g a, g (a + 1), .., times the list
abbrev row_sum : (ℕ → ℤ) → ℕ → List ℤ → ℤ
row_sum g a w = sum_of_products (map g (range_with_len a (length w))) w

pub one_here : (c : ℕ) → one_at c c ≡ pos 1
one_here c = ap (λ b. if b then pos 1 else pos 0) (eq-eqb c c refl)

pub one_apart : (c i : ℕ) → (i ≡ c → ⊥) → one_at c i ≡ pos 0
one_apart c i apart = ap (λ b. if b then pos 1 else pos 0) (ne_eqb i c apart)

-- past the column nothing is left
none_behind : (w : List ℤ) (a c : ℕ) → c < a → row_sum (one_at c) a w ≡ pos 0
none_behind [] a c past = refl
none_behind (v ∷ w) a c past =
    let here = one_apart c a (λ e. omega arith) in
    let rest = none_behind w (a + 1) c (omega arith) in
    ap₂ (λ x y. x *ℤ v +ℤ y) here rest ∙ omega (arith, ints)

-- the entry at the column
one_entry : (w : List ℤ) (a c : ℕ) → a ≤ c → c < a + length w →
    row_sum (one_at c) a w ≡ get_or w (c - a) (pos 0)
one_entry [] a c low high = absurd (omega arith)
one_entry (v ∷ w) a c low high = elim (cases_eq c a) [
  | inl e ↦
      let here : one_at c a ≡ pos 1 = ap (one_at c) (sym e) ∙ one_here c in
      let rest = none_behind w (a + 1) c (omega arith) in
      let start : 0 ≡ c - a = omega arith in
      ap₂ (λ x y. x *ℤ v +ℤ y) here rest ∙ first v ∙ ap (λ k. get_or (v ∷ w) k (pos 0)) start
  | inr apart ↦
      let here = one_apart c a (λ e. apart (sym e)) in
      let rest = one_entry w (a + 1) c (omega arith) (omega arith) in
      let next : suc (c - (a + 1)) ≡ c - a = omega arith in
      ap₂ (λ x y. x *ℤ v +ℤ y) here rest ∙ later v (get_or w (c - (a + 1)) (pos 0))
      ∙ ap (λ k. get_or (v ∷ w) k (pos 0)) next
]
  where
    first : (v : ℤ) → pos 1 *ℤ v +ℤ pos 0 ≡ v
    first v = omega (arith, ints)

    later : (v x : ℤ) → pos 0 *ℤ v +ℤ x ≡ x
    later v x = omega (arith, ints)

-- rows added up
sum_of_rows : (g h u : ℕ → ℤ) (a : ℕ) (w : List ℤ) →
    row_sum (λ i. g i +ℤ h i -ℤ u i) a w ≡ row_sum g a w +ℤ row_sum h a w -ℤ row_sum u a w
sum_of_rows g h u a [] = refl
sum_of_rows g h u a (v ∷ w) =
    ap (λ z. (g a +ℤ h a -ℤ u a) *ℤ v +ℤ z) (sum_of_rows g h u (a + 1) w)
    ∙ regrouped (g a) (h a) (u a) v (row_sum g (a + 1) w) (row_sum h (a + 1) w)
    (row_sum u (a + 1) w)
  where
    regrouped : (x y z v p q r : ℤ) →
        (x +ℤ y -ℤ z) *ℤ v +ℤ (p +ℤ q -ℤ r) ≡ (x *ℤ v +ℤ p) +ℤ (y *ℤ v +ℤ q) -ℤ (z *ℤ v +ℤ r)
    regrouped x y z v p q r = by_ring (x ∷ y ∷ z ∷ v ∷ p ∷ q ∷ r ∷ []) (search ring depth 30) refl

-- ---- the rows of the system

entry_sum : (w : List ℤ) (c : ℕ) → c < length w → row_sum (one_at c) 0 w ≡ get_or w c (pos 0)
entry_sum w c below = one_entry w 0 c (omega arith) (omega arith)
    ∙ ap (λ k. get_or w k (pos 0)) (let e : c - 0 ≡ c = omega arith in e)

pub entry_row_sum : (n c : ℕ) (w : List ℤ) → length w ≡ n → c < n →
    sum_of_products (entry_row n c) w ≡ get_or w c (pos 0)
entry_row_sum n c w len below =
    ap (λ (m : ℕ). sum_of_products (entry_row m c) w) (sym len) ∙ entry_sum w c (omega arith)

pub sum_row_sum : (n a b : ℕ) (w : List ℤ) → length w ≡ n → a < n → b < n → (a + b) % n < n →
    sum_of_products (sum_row n a b) w ≡ get_or w a (pos 0) +ℤ get_or w b (pos 0) -ℤ get_or w
    ((a + b) % n) (pos 0)
sum_row_sum n a b w len a_low b_low sum_low =
    let c = (a + b) % n in
    ap (λ (m : ℕ). sum_of_products
    (map (λ i. one_at a i +ℤ one_at b i -ℤ one_at c i) (range_with_len 0 m)) w) (sym len)
    ∙ sum_of_rows (one_at a) (one_at b) (one_at c) 0 w
    ∙ ap₂ (λ x z. x -ℤ z)
    (ap₂ (λ x y. x +ℤ y) (entry_sum w a (omega arith)) (entry_sum w b (omega arith)))
    (entry_sum w c (omega arith))
