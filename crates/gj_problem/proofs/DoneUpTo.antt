-- Lists whose items are changed one by one, from the first on.
use Rattle.std.proofs.Common.{◌≡◌, ℕ, zero, suc, ◌<◌, ◌≤◌, List, [], ◌∷◌, length, drop, get_or, sym, ap, subst, arith}
use Rattle.std.specs.Prelude.{slice_set}
use Rattle.std.specs.List.{AllZip}

-- the first i items are changed, and the others are as they were
abbrev pub AreDoneUpTo : {A : Type 0} → (A → A → Type 0) → ℕ → List A → List A → Type 0
AreDoneUpTo R zero xs ys = ys ≡ xs
AreDoneUpTo R (suc i) [] ys = ys ≡ []
AreDoneUpTo R (suc i) (x ∷ xs) [] = ⊥
AreDoneUpTo R (suc i) (x ∷ xs) (y ∷ ys) = R x y × AreDoneUpTo R i xs ys

-- the next one is still as it was
pub next_same : {A : Type 0} (R : A → A → Type 0) (i : ℕ) (xs ys : List A) (a b : A) →
    AreDoneUpTo R i xs ys → i < length xs →
    get_or ys i a ≡ get_or xs i b
next_same R zero [] ys a b h below = absurd (omega arith)
next_same {A} R zero (x ∷ xs) ys a b h below = ap (λ (l : List A). get_or l 0 a) h
next_same R (suc i) [] ys a b h below = absurd (omega arith)
next_same R (suc i) (x ∷ xs) [] a b h below = absurd h
next_same R (suc i) (x ∷ xs) (y ∷ ys) a b h below = next_same R i xs ys a b h.1 (omega arith)

pub next_done : {A : Type 0} (R : A → A → Type 0) (i : ℕ) (xs ys : List A) (a y : A) →
    AreDoneUpTo R i xs ys → i < length xs →
    R (get_or xs i a) y → AreDoneUpTo R (suc i) xs (slice_set ys i y)
next_done R zero [] ys a y h below is = absurd (omega arith)
next_done R zero (x ∷ xs) [] a y h below is = absurd (longer (ap length h))
  where
    longer : {l : ℕ} → 0 ≡ suc l → ⊥
    longer e = omega arith
next_done R zero (x ∷ xs) (z ∷ ys) a y h below is = (is, ap (drop 1) h)
next_done R (suc i) [] ys a y h below is = absurd (omega arith)
next_done R (suc i) (x ∷ xs) [] a y h below is = absurd h
next_done R (suc i) (x ∷ xs) (z ∷ ys) a y h below is =
    (h.0, next_done R i xs ys a y h.1 (omega arith) is)

-- one that stays as it was, where that is its change
pub next_kept : {A : Type 0} (R : A → A → Type 0) (i : ℕ) (xs ys : List A) (a : A) →
    AreDoneUpTo R i xs ys → i < length xs →
    R (get_or xs i a) (get_or xs i a) → AreDoneUpTo R (suc i) xs ys
next_kept R zero [] ys a h below is = absurd (omega arith)
next_kept R zero (x ∷ xs) [] a h below is = absurd (longer (ap length h))
  where
    longer : {l : ℕ} → 0 ≡ suc l → ⊥
    longer e = omega arith
next_kept {A} R zero (x ∷ xs) (z ∷ ys) a h below is =
    (subst (R x) (sym (ap (λ (l : List A). get_or l 0 a) h)) is, ap (drop 1) h)
next_kept R (suc i) [] ys a h below is = absurd (omega arith)
next_kept R (suc i) (x ∷ xs) [] a h below is = absurd h
next_kept R (suc i) (x ∷ xs) (z ∷ ys) a h below is =
    (h.0, next_kept R i xs ys a h.1 (omega arith) is)

pub all_done : {A : Type 0} (R : A → A → Type 0) (i : ℕ) (xs ys : List A) → length xs ≤ i →
    AreDoneUpTo R i xs ys → AllZip R xs ys
all_done {A} R zero [] ys end h = subst (λ (l : List A). AllZip R [] l) (sym h) tt
all_done R zero (x ∷ xs) ys end h = absurd (omega arith)
all_done {A} R (suc i) [] ys end h = subst (λ (l : List A). AllZip R [] l) (sym h) tt
all_done R (suc i) (x ∷ xs) [] end h = absurd h
all_done R (suc i) (x ∷ xs) (y ∷ ys) end h = (h.0, all_done R i xs ys (omega arith) h.1)
