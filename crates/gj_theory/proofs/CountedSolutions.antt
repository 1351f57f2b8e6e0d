-- Solutions as lists of places and as counts of places.
use Rattle.std.proofs.Common.{◌≡◌, ◌≢◌, ℕ, zero, suc, ◌+◌, ◌*◌, ◌%◌, ◌<◌, ◌≤◌, ⊎_elim, eqb, cond, List, [], ◌∷◌, map, ℤ, pos, ◌+ℤ◌, ◌*ℤ◌, ◌≤ℤ◌, refl, sym, subst, ap, ap₂, ◌∙◌, arith}
use Rattle.std.specs.List.{range_with_len}
use Rattle.std.specs.Prelude.{sum}
use Rattle.std.proofs.Math.Nat.{mod-lt, mod-mod}
use Rattle.std.proofs.lemmas.Bool.{cases_eq, cond-true, cond-false}
use Rattle.std.proofs.lemmas.Bool.Decides.{eqb_tells}
use Rattle.std.proofs.lemmas.Int.{ints}
use Rattle.gj_lemmas.proofs.Integers.{mul_add_z}
use Rattle.gj_lemmas.proofs.Quotients.{same_at_remainder}
use Rattle.gj_shape.specs.SlopeRows.{total}
use Rattle.gj_shape.specs.Valid.{IsSolution, weight, IsValidTable}
use Rattle.gj_theory.proofs.Weights.{HasList, sum_cons, same_sums, with_copies}

-- ---- solutions by counts

-- y i is how often the place i below n is used
abbrev IsCountedSolution : ℕ → ℕ → (ℕ → ℕ) → Type 0
IsCountedSolution n k y = sum (map (λ i. i * y i) (range_with_len 0 n)) % n ≡ k % n

-- the sum of a table's entries at the places below n, each times its count
abbrev counted_weight : (ℕ → ℤ) → ℕ → (ℕ → ℕ) → ℤ
counted_weight t n y = total (map (λ i. t i *ℤ pos (y i)) (range_with_len 0 n))

-- ---- sums over a range

abbrev total_over : (ℕ → ℤ) → ℕ → ℕ → ℤ
total_over f a n = total (map f (range_with_len a n))

total_same : (f g : ℕ → ℤ) (a n : ℕ) → ((i : ℕ) → a ≤ i → g i ≡ f i) →
    total_over g a n ≡ total_over f a n
total_same f g a zero h = refl
total_same f g a (suc n) h =
    ap₂ (λ x y. x +ℤ y) (h a (omega arith)) (total_same f g (a + 1) n (λ i l. h i (omega arith)))

-- one entry that rises by e
total_risen : (f g : ℕ → ℤ) (e : ℤ) (r a n : ℕ) → ((i : ℕ) → i ≢ r → g i ≡ f i) → g r ≡ f r +ℤ e →
    a ≤ r → r < a + n →
    total_over g a n ≡ total_over f a n +ℤ e
total_risen f g e r a zero off at low high = absurd (omega arith)
total_risen f g e r a (suc n) off at low high =
    ⊎_elim
    (λ same.
    let here : g a ≡ f a +ℤ e = subst (λ i. g i ≡ f i +ℤ e) (sym same) at in
    let rest = total_same f g (a + 1) n (λ i l. off i (omega arith)) in
    omega (arith, ints))
    (λ differs.
    let here = off a differs in
    let rest = total_risen f g e r (a + 1) n off at (omega arith) (omega arith) in
    omega (arith, ints))
    (cases_eq a r)

total_zero : (f : ℕ → ℤ) (a n : ℕ) → ((i : ℕ) → f i ≡ pos 0) → total_over f a n ≡ pos 0
total_zero f a zero h = refl
total_zero f a (suc n) h =
    let here = h a in
    let rest = total_zero f (a + 1) n h in
    omega (arith, ints)

sum_over : (f : ℕ → ℕ) (a n : ℕ) →
    pos (sum (map f (range_with_len a n))) ≡ total_over (λ i. pos (f i)) a n
sum_over f a zero = refl
sum_over f a (suc n) =
    let first = sum_cons (f a) (map f (range_with_len (a + 1) n)) in
    let rest = sum_over f (a + 1) n in
    omega (arith, ints)

-- ---- the counts of a list

-- y with one more at r
abbrev with_one : (ℕ → ℕ) → ℕ → ℕ → ℕ
with_one y r i = y i + cond (eqb i r) 1 0

with_one_at : (y : ℕ → ℕ) (r : ℕ) → with_one y r r ≡ y r + 1
with_one_at y r =
    ⊎_elim (λ at. ap (λ c. y r + c) (cond-true (eqb r r) 1 0 at.0)) (λ off. absurd (off.1 refl))
    (eqb_tells r r)

with_one_off : (y : ℕ → ℕ) (r i : ℕ) → i ≢ r → with_one y r i ≡ y i
with_one_off y r i differs =
    ⊎_elim (λ at. absurd (differs at.1)) (λ off. ap (λ c. y i + c) (cond-false (eqb i r) 1 0 off.0)
    ∙ omega arith)
    (eqb_tells i r)

-- counts with the sum and the weight of a list
abbrev HasCounts : (ℕ → ℤ) → ℕ → List ℕ → Type 0
HasCounts t n places =
    (y : ℕ → ℕ) × (sum (map (λ i. i * y i) (range_with_len 0 n)) % n ≡ sum places % n)
    × (counted_weight t n y ≡ weight t places)

no_counts : (t : ℕ → ℤ) (n : ℕ) → HasCounts t n []
no_counts t n =
    let none : sum (map (λ i. i * 0) (range_with_len 0 n)) ≡ 0 =
    let whole = sum_over (λ i. i * 0) 0 n in
    let zeros = total_zero (λ i. pos (i * 0)) 0 n (λ i. omega (arith, ints)) in
    omega (arith, ints) in
    (λ i. 0, ap (λ i. i % n) none, total_zero (λ i. t i *ℤ pos 0) 0 n (λ i. omega (arith, ints)))

more_counts : (t : ℕ → ℤ) (n x : ℕ) (xs : List ℕ) → 0 < n → ((i : ℕ) → t (i + n) ≡ t i) →
    HasCounts t n xs → HasCounts t n (x ∷ xs)
more_counts t n x xs some period (y, place, is) =
    let r = x % n in
    let z = with_one y r in
    let small = mod-lt x some in
    let at = with_one_at y r in
    let sums : sum (map (λ i. i * z i) (range_with_len 0 n))
    ≡ r + sum (map (λ i. i * y i) (range_with_len 0 n)) =
    let before = sum_over (λ i. i * y i) 0 n in
    let after = sum_over (λ i. i * z i) 0 n in
    let risen = total_risen (λ i. pos (i * y i)) (λ i. pos (i * z i)) (pos r) r 0 n
    (λ i differs. ap (λ c. pos (i * c)) (with_one_off y r i differs))
    (ap (λ c. pos (r * c)) at ∙ ap pos (omega arith)) (omega arith) (omega arith) in
    omega (arith, ints) in
    let weights : counted_weight t n z ≡ counted_weight t n y +ℤ t r =
    total_risen (λ i. t i *ℤ pos (y i)) (λ i. t i *ℤ pos (z i)) (t r) r 0 n
    (λ i differs. ap (λ c. t i *ℤ pos c) (with_one_off y r i differs))
    (ap (λ c. t r *ℤ pos c) at ∙ mul_add_z (t r) (pos (y r)) (pos 1) ∙ omega (arith, ints))
    (omega arith) (omega arith) in
    let same = same_at_remainder t n period r x (mod-mod x n) in (
      z,
      ap (λ i. i % n) sums ∙ same_sums r x (sum (map (λ i. i * y i) (range_with_len 0 n)))
          (sum xs) n (mod-mod x n) place
          ∙ ap (λ i. i % n) (sym (sum_cons x xs)),
      omega (arith, ints),
    )

has_counts : (t : ℕ → ℤ) (n : ℕ) (places : List ℕ) → 0 < n → ((i : ℕ) → t (i + n) ≡ t i) →
    HasCounts t n places
has_counts t n [] some period = no_counts t n
has_counts t n (x ∷ xs) some period =
    more_counts t n x xs some period (has_counts t n xs some period)

pub counts_of_list : (t : ℕ → ℤ) (n k : ℕ) (places : List ℕ) → 0 < n → ((i : ℕ) → t (i + n) ≡ t i) →
    IsSolution n k places →
    (y : ℕ → ℕ) × IsCountedSolution n k y × (counted_weight t n y ≡ weight t places)
counts_of_list t n k places some period solution =
    let (y, place, is) = has_counts t n places some period in
    (y, place ∙ solution, is)

-- ---- the list of counts

has_list : (t : ℕ → ℤ) (y : ℕ → ℕ) (a n : ℕ) →
    HasList t (sum (map (λ i. i * y i) (range_with_len a n)))
    (total_over (λ i. t i *ℤ pos (y i)) a n)
has_list t y a zero = ([], refl, refl)
has_list t y a (suc n) =
    let rest = map (λ i. i * y i) (range_with_len (a + 1) n) in
    let (places, place, is) =
    with_copies t a (y a) (sum rest) (total_over (λ i. t i *ℤ pos (y i)) (a + 1) n)
    (has_list t y (a + 1) n) in
    (places, place ∙ sym (sum_cons (a * y a) rest), is)

pub list_of_counts : (t : ℕ → ℤ) (n k : ℕ) (y : ℕ → ℕ) → IsCountedSolution n k y →
    (places : List ℕ) × IsSolution n k places × (weight t places ≡ counted_weight t n y)
list_of_counts t n k y solution =
    let (places, place, is) = has_list t y 0 n in
    (places, ap (λ i. i % n) place ∙ solution, is)

-- ---- valid tables

pub valid_by_counts : (t : ℕ → ℤ) (n k s : ℕ) → 0 < n → ((i : ℕ) → t (i + n) ≡ t i) →
    ((i : ℕ) → pos 0 ≤ℤ t i) →
    ((y : ℕ → ℕ) → IsCountedSolution n k y → pos s ≤ℤ counted_weight t n y) → IsValidTable t n k s
valid_by_counts t n k s some period low h = record {
  has_period = period;
  nonnegative = low;
  at_solutions = λ places solution.
      let (y, counted, is) = counts_of_list t n k places some period solution in
      subst (λ (w : ℤ). pos s ≤ℤ w) is (h y counted);
}

pub counted_by_valid : (t : ℕ → ℤ) (n k s : ℕ) (y : ℕ → ℕ) → IsValidTable t n k s →
    IsCountedSolution n k y →
    pos s ≤ℤ counted_weight t n y
counted_by_valid t n k s y valid counted =
    let (places, solution, is) = list_of_counts t n k y counted in
    subst (λ (w : ℤ). pos s ≤ℤ w) is (valid.at_solutions places solution)
