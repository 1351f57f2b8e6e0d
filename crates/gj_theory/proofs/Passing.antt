-- Numbers that pass 2^127 - 1, in lists.
use Rattle.std.proofs.Common.{◌≡◌, ℕ, zero, suc, ◌<◌, ◌≤◌, ◌^◌, ◌⊎◌, inl, inr, ℤ, pos, List, [], ◌∷◌, ◌++◌, length, get_or, unsigned_abs, refl, sym, subst, ◌∙◌, arith}
use Rattle.std.specs.Prelude.{All}
use Rattle.std.proofs.lemmas.Bool.{cases_lt}
use Rattle.std.proofs.lemmas.List.{get_or_default}
use Rattle.std.proofs.lemmas.List.Elements.{All-from_get_or}
use Rattle.gj_shape.specs.Elimination.{Passes}
use Rattle.gj_frac.specs.Fraction.{Fits}

pub none_passes : Passes [] → ⊥
none_passes h = omega (arith, h.2)

pub first_passes : (x : ℤ) (xs : List ℤ) → 2 ^ 127 ≤ unsigned_abs x → Passes (x ∷ xs)
first_passes x xs h = (0, x, omega arith, refl, h)

pub later_passes : (x : ℤ) (xs : List ℤ) → Passes xs → Passes (x ∷ xs)
later_passes x xs h = (suc h.0, h.1, omega (arith, h.2), h.3, h.4)

pub passes_cases : (x : ℤ) (xs : List ℤ) → Passes (x ∷ xs) → (2 ^ 127 ≤ unsigned_abs x) ⊎ Passes xs
passes_cases x xs (zero, y, below, is, h) =
    inl (subst (λ (z : ℤ). 2 ^ 127 ≤ unsigned_abs z) (sym is) h)
passes_cases x xs (suc k, y, below, is, h) = inr (k, y, omega arith, is, h)

pub front_passes : (xs ys : List ℤ) → Passes xs → Passes (xs ++ ys)
front_passes [] ys h = absurd (none_passes h)
front_passes (x ∷ xs) ys h = by_case (passes_cases x xs h) (front_passes xs ys)
  where
    by_case : (2 ^ 127 ≤ unsigned_abs x) ⊎ Passes xs → (Passes xs → Passes (xs ++ ys)) →
        Passes (x ∷ (xs ++ ys))
    by_case (inl here) later = first_passes x (xs ++ ys) here
    by_case (inr there) later = later_passes x (xs ++ ys) (later there)

pub back_passes : (xs ys : List ℤ) → Passes ys → Passes (xs ++ ys)
back_passes [] ys h = h
back_passes (x ∷ xs) ys h = later_passes x (xs ++ ys) (back_passes xs ys h)

pub either_passes : (xs ys : List ℤ) → Passes (xs ++ ys) → Passes xs ⊎ Passes ys
either_passes [] ys h = inr h
either_passes (x ∷ xs) ys h = by_case (passes_cases x (xs ++ ys) h) (either_passes xs ys)
  where
    by_case : (2 ^ 127 ≤ unsigned_abs x) ⊎ Passes (xs ++ ys) →
        (Passes (xs ++ ys) → Passes xs ⊎ Passes ys) →
        Passes (x ∷ xs) ⊎ Passes ys
    by_case (inl here) later = inl (first_passes x xs here)
    by_case (inr there) later = rest (later there)
      where
        rest : Passes xs ⊎ Passes ys → Passes (x ∷ xs) ⊎ Passes ys
        rest (inl p) = inl (later_passes x xs p)
        rest (inr p) = inr p

-- ---- by index

pub passes_at : (xs : List ℤ) (k : ℕ) → k < length xs →
    2 ^ 127 ≤ unsigned_abs (get_or xs k (pos 0)) → Passes xs
passes_at xs k below h =
    (k, get_or xs k (pos 0), below, get_or_default xs k (get_or xs k (pos 0)) (pos 0) below, h)

pub none_pass : (xs : List ℤ) → ((k : ℕ) → k < length xs → Fits (get_or xs k (pos 0))) → Passes xs →
    ⊥
none_pass xs all (k, x, below, is, h) =
    let same : get_or xs k (pos 0) ≡ x = get_or_default xs k (pos 0) x below ∙ is in
    let small : unsigned_abs x < 2 ^ 127 = subst Fits same (all k below) in
    omega arith

-- if none passes, all fit
pub all_fit : (xs : List ℤ) → (Passes xs → ⊥) → All Fits xs
all_fit xs none = All-from_get_or Fits xs (pos 0)
    (λ k below. by_size k below (cases_lt (unsigned_abs (get_or xs k (pos 0))) (2 ^ 127)))
  where
    by_size : (k : ℕ) → k < length xs → (unsigned_abs (get_or xs k (pos 0)) < 2 ^ 127)
        ⊎ (2 ^ 127 ≤ unsigned_abs (get_or xs k (pos 0))) →
        Fits (get_or xs k (pos 0))
    by_size k below (inl small) = small
    by_size k below (inr large) = absurd (none (passes_at xs k below large))
