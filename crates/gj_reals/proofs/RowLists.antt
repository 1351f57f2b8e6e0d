-- Rows of whole numbers: those with a 1 in one column, those of three columns, and the rows for all
-- numbers below another.
use Rattle.std.proofs.Common.{◌≡◌, ℕ, zero, suc, ◌<◌, ℤ, pos, negsuc, ⊎_elim, List, [], ◌∷◌, ◌++◌, subst, arith}
use Rattle.std.proofs.lemmas.Bool.{cases_lt}
use Rattle.gj_reals.proofs.Lift.{Each, combined}

-- 1 in the column i
abbrev pub unit_row : ℕ → List ℤ
unit_row zero = pos 1 ∷ []
unit_row (suc i) = pos 0 ∷ unit_row i

-- the entries at i and j less that at k
abbrev pub pair_row : ℕ → ℕ → ℕ → List ℤ
pair_row i j k =
    combined (pos 1) (combined (pos 1) (unit_row i) (pos 1) (unit_row j)) (negsuc 0) (unit_row k)

-- the rows for all numbers below another
abbrev pub upto : ℕ → (ℕ → List (List ℤ)) → List (List ℤ)
upto zero rows = []
upto (suc n) rows = rows n ++ upto n rows

pub each-append : (P : List ℤ → Type 0) (xs ys : List (List ℤ)) → Each P xs → Each P ys →
    Each P (xs ++ ys)
each-append P [] ys h k = k
each-append P (x ∷ xs) ys h k = (h.0, each-append P xs ys h.1 k)

pub each-parts : (P : List ℤ → Type 0) (xs ys : List (List ℤ)) → Each P (xs ++ ys) → Each P xs
    × Each P ys
each-parts P [] ys h = (tt, h)
each-parts P (x ∷ xs) ys h = let rest = each-parts P xs ys h.1 in ((h.0, rest.0), rest.1)

pub each_upto : (P : List ℤ → Type 0) (n : ℕ) (rows : ℕ → List (List ℤ)) →
    ((i : ℕ) → i < n → Each P (rows i)) → Each P (upto n rows)
each_upto P zero rows h = tt
each_upto P (suc n) rows h =
    each-append P (rows n) (upto n rows) (h n (omega arith))
    (each_upto P n rows (λ i low. h i (omega arith)))

pub of_upto : (P : List ℤ → Type 0) (n : ℕ) (rows : ℕ → List (List ℤ)) → Each P (upto n rows) →
    (i : ℕ) → i < n → Each P (rows i)
of_upto P zero rows h i low = absurd (omega arith)
of_upto P (suc n) rows h i low =
    let both = each-parts P (rows n) (upto n rows) h in
    ⊎_elim (λ earlier. of_upto P n rows both.1 i earlier)
    (λ last. let same : n ≡ i = omega arith in subst (λ k. Each P (rows k)) same both.0)
    (cases_lt i n)
