-- The rows of the linear system at slopes: sums of the slopes of intervals.
use Rattle.std.proofs.Common.{◌≡◌, ℕ, zero, suc, ◌+◌, ◌%◌, ◌<◌, ◌≤◌, ◌==◌, inl, inr, cond, ℤ, pos, ◌+ℤ◌, ◌-ℤ◌, ◌*ℤ◌, List, [], ◌∷◌, ◌++◌, map, count_by, refl, ap, ap₂, ◌∙◌, arith}
use Rattle.std.specs.List.{range_with_len}
use Rattle.std.proofs.Math.Nat.{zero-add}
use Rattle.std.proofs.lemmas.Bool.{cases_eq, eq-eqb, ne_eqb}
use Rattle.std.proofs.lemmas.Int.{ints}
use Rattle.std.proofs.lemmas.List.Sums.{sum_by-append}
use Rattle.gj_lemmas.proofs.Integers.{add_mul_z, sub_mul_z}
use Rattle.gj_lemmas.proofs.Lists.{range_split}
use Rattle.gj_shape.specs.SlopeRows.{rises, row_entry, row_of, sum_of_products}
use Rattle.gj_shape.specs.declared.extremality.RowName.TheVariants.{Period, F, Pair}

-- ---- sums over a range

-- the sum of the n numbers from the index a on
sum_from : (ℕ → ℤ) → ℕ → ℕ → ℤ
sum_from g a zero = pos 0
sum_from g a (suc n) = g a +ℤ sum_from g (a + 1) n

sum_same : (g h : ℕ → ℤ) (a n : ℕ) → ((c : ℕ) → g c ≡ h c) → sum_from g a n ≡ sum_from h a n
unfolding sum_from
sum_same g h a zero same = refl
sum_same g h a (suc n) same = ap₂ (λ x y. x +ℤ y) (same a) (sum_same g h (a + 1) n same)

sum_add : (g h : ℕ → ℤ) (a n : ℕ) →
    sum_from (λ c. g c +ℤ h c) a n ≡ sum_from g a n +ℤ sum_from h a n
unfolding sum_from
sum_add g h a zero = refl
sum_add g h a (suc n) = let rest = sum_add g h (a + 1) n in omega (arith, ints)

sum_sub : (g h : ℕ → ℤ) (a n : ℕ) →
    sum_from (λ c. g c -ℤ h c) a n ≡ sum_from g a n -ℤ sum_from h a n
unfolding sum_from
sum_sub g h a zero = refl
sum_sub g h a (suc n) = let rest = sum_sub g h (a + 1) n in omega (arith, ints)

sum_zero : (s : ℕ → ℤ) (a n : ℕ) → sum_from (λ c. pos 0 *ℤ s c) a n ≡ pos 0
unfolding sum_from
sum_zero s a zero = refl
sum_zero s a (suc n) = let rest = sum_zero s (a + 1) n in omega (arith, ints)

-- the numbers times 1 at x and 0 elsewhere
sum_behind : (s : ℕ → ℤ) (x a n : ℕ) → x < a → sum_from (λ c. pos (cond (x == c) 1 0) *ℤ s c) a n
    ≡ pos 0
unfolding sum_from
sum_behind s x a zero low = refl
sum_behind s x a (suc n) low =
    let rest = sum_behind s x (a + 1) n (omega arith) in
    let here = ap (λ b. pos (cond b 1 0) *ℤ s a) (ne_eqb x a (λ e. omega arith)) in
    omega (arith, ints)

sum_at : (s : ℕ → ℤ) (x a n : ℕ) → a ≤ x → x < a + n →
    sum_from (λ c. pos (cond (x == c) 1 0) *ℤ s c) a n ≡ s x
unfolding sum_from
sum_at s x a zero low high = absurd (omega arith)
sum_at s x a (suc n) low high =
    elim (cases_eq x a) [
      | inl e ↦
          let here = ap (λ b. pos (cond b 1 0) *ℤ s a) (eq-eqb x a e) in
          let rest = sum_behind s x (a + 1) n (omega arith) in
          let same = ap s e in
          omega (arith, ints)
      | inr ne ↦
          let here = ap (λ b. pos (cond b 1 0) *ℤ s a) (ne_eqb x a ne) in
          let rest = sum_at s x (a + 1) n (omega arith) (omega arith) in
          omega (arith, ints)
    ]

-- the sum of the products of two lists that are made over one range
products_of_maps : (r s : ℕ → ℤ) (a n : ℕ) →
    sum_of_products (map r (range_with_len a n)) (map s (range_with_len a n))
    ≡ sum_from (λ c. r c *ℤ s c) a n
unfolding sum_from
products_of_maps r s a zero = refl
products_of_maps r s a (suc n) = ap (λ x. r a *ℤ s a +ℤ x) (products_of_maps r s (a + 1) n)

-- ---- sums of the slopes of intervals

-- the sum over the intervals before i
unfoldable pub sum_before : (ℕ → ℤ) → ℕ → ℤ
sum_before slope zero = pos 0
sum_before slope (suc i) = sum_before slope i +ℤ slope i

-- one more interval
rises_more : (component : ℕ → ℕ) (i c : ℕ) →
    rises component (suc i) c ≡ rises component i c + cond (component i == c) 1 0
rises_more component i c =
    let one : suc i ≡ i + 1 = omega arith in
    let split : range_with_len 0 (suc i) ≡ range_with_len 0 i ++ i ∷ [] =
    ap (range_with_len 0) one ∙ range_split 0 i 1
    ∙ ap (λ k. range_with_len 0 i ++ k ∷ []) (zero-add i) in
    ap (count_by (λ a. component a == c)) split
    ∙ sum_by-append (λ a. cond (component a == c) 1 0) (range_with_len 0 i) (i ∷ [])
    ∙ ap (λ k. rises component i c + k) (zero-add (cond (component i == c) 1 0))

-- the sum over components, each as often as it rises before i
rises_sum : (component : ℕ → ℕ) (s : ℕ → ℤ) (n i : ℕ) → ((j : ℕ) → j < i → component j < n) →
    sum_from (λ c. pos (rises component i c) *ℤ s c) 0 n ≡ sum_before (λ j. s (component j)) i
unfolding sum_before
rises_sum component s n zero below = sum_zero s 0 n
rises_sum component s n (suc i) below =
    let more = sum_same (λ c. pos (rises component (suc i) c) *ℤ s c)
    (λ c. pos (rises component i c) *ℤ s c +ℤ pos (cond (component i == c) 1 0) *ℤ s c) 0 n
    (λ c. ap (λ k. pos k *ℤ s c) (rises_more component i c)
    ∙ add_mul_z (pos (rises component i c)) (pos (cond (component i == c) 1 0)) (s c)) in
    more
    ∙ sum_add (λ c. pos (rises component i c) *ℤ s c)
    (λ c. pos (cond (component i == c) 1 0) *ℤ s c) 0 n
    ∙ ap₂ (λ x y. x +ℤ y) (rises_sum component s n i (λ j low. below j (omega arith)))
    (sum_at s (component i) 0 n (omega arith) (omega (arith, below i (omega arith))))

-- ---- the rows at the slopes of the components

-- the slopes of n components
abbrev pub slopes_of : (ℕ → ℤ) → ℕ → List ℤ
slopes_of s n = map s (range_with_len 0 n)

pub period_row : (component : ℕ → ℕ) (s : ℕ → ℤ) (n q k : ℕ) → ((j : ℕ) → j < q → component j < n) →
    sum_of_products (row_of component n q k Period) (slopes_of s n)
    ≡ sum_before (λ j. s (component j)) q
period_row component s n q k below =
    products_of_maps (row_entry component q k Period) s 0 n ∙ rises_sum component s n q below

pub place_row : (component : ℕ → ℕ) (s : ℕ → ℤ) (n q k : ℕ) → ((j : ℕ) → j < q → component j < n) →
    k ≤ q →
    sum_of_products (row_of component n q k F) (slopes_of s n) ≡ sum_before (λ j. s (component j)) k
place_row component s n q k below within =
    products_of_maps (row_entry component q k F) s 0 n
    ∙ rises_sum component s n k (λ j low. below j (omega arith))

pub pair_row : (component : ℕ → ℕ) (s : ℕ → ℤ) (n q k a b : ℕ) →
    ((j : ℕ) → j < q → component j < n) →
    a ≤ q → b ≤ q → (a + b) % q ≤ q →
    sum_of_products (row_of component n q k (Pair a b)) (slopes_of s n)
    ≡ sum_before (λ j. s (component j)) a +ℤ sum_before (λ j. s (component j)) b
    -ℤ sum_before (λ j. s (component j)) ((a + b) % q)
pair_row component s n q k a b below a_within b_within sum_within =
    let part = λ (i c : ℕ). pos (rises component i c) *ℤ s c in
    let sums = λ (i : ℕ) (within : i ≤ q). rises_sum component s n i
    (λ j low. below j (omega arith)) in
    products_of_maps (row_entry component q k (Pair a b)) s 0 n
    ∙ sum_same (λ c. row_entry component q k (Pair a b) c *ℤ s c)
    (λ c. part a c +ℤ part b c -ℤ part ((a + b) % q) c) 0 n
    (λ c. sub_mul_z (pos (rises component a c) +ℤ pos (rises component b c))
    (pos (rises component ((a + b) % q) c)) (s c)
    ∙ ap (λ x. x -ℤ part ((a + b) % q) c)
    (add_mul_z (pos (rises component a c)) (pos (rises component b c)) (s c)))
    ∙ sum_sub (λ c. part a c +ℤ part b c) (part ((a + b) % q)) 0 n
    ∙ ap₂ (λ x y. x -ℤ y) (sum_add (part a) (part b) 0 n
    ∙ ap₂ (λ x y. x +ℤ y) (sums a a_within) (sums b b_within))
    (sums ((a + b) % q) sum_within)
