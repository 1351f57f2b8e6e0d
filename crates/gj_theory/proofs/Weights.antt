-- Sums of entries of a table at the places of a list.
use Rattle.std.proofs.Common.{◌≡◌, ℕ, zero, suc, ◌+◌, ◌*◌, ◌/◌, ◌%◌, List, [], ◌∷◌, ◌++◌, ℤ, pos, ◌+ℤ◌, ◌*ℤ◌, ◌≤ℤ◌, refl, sym, ap, ap₂, ◌∙◌, arith}
use Rattle.std.specs.Prelude.{sum}
use Rattle.std.proofs.lemmas.Int.{ints}
use Rattle.std.proofs.lemmas.List.Sums.{sum_by-cons, sum_by-append}
use Rattle.gj_lemmas.proofs.Integers.{mul_add_z}
use Rattle.gj_lemmas.proofs.Quotients.{same_remainder, from_same_remainder}
use Rattle.gj_shape.specs.Valid.{weight}

-- ---- rests of sums

pub same_sums : (a b x y n : ℕ) → a % n ≡ b % n → x % n ≡ y % n → (a + x) % n ≡ (b + y) % n
same_sums a b x y n e h =
    let first = from_same_remainder a b n e in
    let second = from_same_remainder x y n h in
    same_remainder (a + x) (b + y) (b / n + y / n) (a / n + x / n) n (omega arith)

pub cancel_same : (a x y n : ℕ) → (a + x) % n ≡ (a + y) % n → x % n ≡ y % n
cancel_same a x y n e =
    let whole = from_same_remainder (a + x) (a + y) n e in
    same_remainder x y ((a + y) / n) ((a + x) / n) n (omega arith)

-- ---- lists of places

pub sum_cons : (x : ℕ) (xs : List ℕ) → sum (x ∷ xs) ≡ x + sum xs
sum_cons x xs = sum_by-cons (λ i. i) x xs

pub sum_append : (xs ys : List ℕ) → sum (xs ++ ys) ≡ sum xs + sum ys
sum_append xs ys = sum_by-append (λ i. i) xs ys

pub weight_append : (t : ℕ → ℤ) (xs ys : List ℕ) → weight t (xs ++ ys) ≡ weight t xs +ℤ weight t ys
weight_append t [] ys = omega (arith, ints)
weight_append t (x ∷ xs) ys = let rest = weight_append t xs ys in omega (arith, ints)

pub weight_nonnegative : (t : ℕ → ℤ) (xs : List ℕ) → ((i : ℕ) → pos 0 ≤ℤ t i) → pos 0 ≤ℤ weight t xs
weight_nonnegative t [] h = omega (arith, ints)
weight_nonnegative t (x ∷ xs) h =
    let first = h x in
    let rest = weight_nonnegative t xs h in
    omega (arith, ints)

pub weight_le : (t u : ℕ → ℤ) (xs : List ℕ) → ((i : ℕ) → t i ≤ℤ u i) → weight t xs ≤ℤ weight u xs
weight_le t u [] h = omega (arith, ints)
weight_le t u (x ∷ xs) h =
    let first = h x in
    let rest = weight_le t u xs h in
    omega (arith, ints)

-- a sum of multiples of two tables
pub weight_of_sum : (a b w : ℕ → ℤ) (c d : ℤ) (xs : List ℕ) →
    ((i : ℕ) → w i ≡ c *ℤ a i +ℤ d *ℤ b i) →
    weight w xs ≡ c *ℤ weight a xs +ℤ d *ℤ weight b xs
weight_of_sum a b w c d [] h = omega (arith, ints)
weight_of_sum a b w c d (x ∷ xs) h =
    let first = h x in
    let rest = weight_of_sum a b w c d xs h in
    let left = mul_add_z c (a x) (weight a xs) in
    let right = mul_add_z d (b x) (weight b xs) in
    omega (arith, ints)

-- a multiple of a table
pub weight_of_multiple : (t : ℕ → ℤ) (c : ℤ) (xs : List ℕ) →
    weight (λ i. c *ℤ t i) xs ≡ c *ℤ weight t xs
weight_of_multiple t c [] = omega (arith, ints)
weight_of_multiple t c (x ∷ xs) =
    let rest = weight_of_multiple t c xs in
    let split = mul_add_z c (t x) (weight t xs) in
    omega (arith, ints)

-- ---- subadditive tables

-- summed over a list
pub below_weight : (t : ℕ → ℤ) (xs : List ℕ) → t 0 ≡ pos 0 →
    ((i j : ℕ) → t (i + j) ≤ℤ (t i +ℤ t j)) → t (sum xs) ≤ℤ weight t xs
below_weight t [] none below = omega (arith, ints, none)
below_weight t (x ∷ xs) none below =
    let step = below x (sum xs) in
    let rest = below_weight t xs none below in
    let e : t (sum (x ∷ xs)) ≡ t (x + sum xs) = ap t (sum_cons x xs) in
    omega (arith, ints)

-- ---- places that stand for others

-- places that add up to i and weigh w
abbrev pub StandFor : (ℕ → ℤ) → ℕ → ℕ → ℤ → Type 0
StandFor t n i w = (places : List ℕ) × (sum places % n ≡ i % n) × (weight t places ≡ w)

pub stand_for_all : (t u : ℕ → ℤ) (n : ℕ) (xs : List ℕ) → ((i : ℕ) → StandFor t n i (u i)) →
    StandFor t n (sum xs) (weight u xs)
stand_for_all t u n [] each = ([], refl, refl)
stand_for_all t u n (x ∷ xs) each =
    let (first, first_sum, first_weight) = each x in
    let (rest, rest_sum, rest_weight) = stand_for_all t u n xs each in (
      first ++ rest,
      ap (λ i. i % n) (sum_append first rest)
          ∙ same_sums (sum first) x (sum rest) (sum xs) n first_sum rest_sum
          ∙ ap (λ i. i % n) (sym (sum_cons x xs)),
      weight_append t first rest ∙ ap₂ (λ v w. v +ℤ w) first_weight rest_weight,
    )

-- ---- copies of one place

-- a list with the sum s and the weight w
abbrev pub HasList : (ℕ → ℤ) → ℕ → ℤ → Type 0
HasList t s w = (places : List ℕ) × (sum places ≡ s) × (weight t places ≡ w)

-- with m more uses of a
pub with_copies : (t : ℕ → ℤ) (a m s : ℕ) (w : ℤ) → HasList t s w →
    HasList t (a * m + s) (t a *ℤ pos m +ℤ w)
with_copies t a zero s w (places, place, is) = (places, omega arith, omega (arith, ints))
with_copies t a (suc m) s w h =
    let (places, place, is) = with_copies t a m s w h in
    let first = sum_cons a places in
    let split = mul_add_z (t a) (pos m) (pos 1) in
    let e : t a *ℤ pos (suc m) ≡ t a *ℤ (pos m +ℤ pos 1) = ap (λ z. t a *ℤ pos z) (omega arith) in
    (a ∷ places, omega arith, omega (arith, ints))
