-- One entry of a step, and all of them.
use Rattle.std.proofs.Common.{◌≡◌, ℕ, ◌+◌, ◌<◌, ◌≤◌, ◌^◌, ◌⊎◌, inl, inr, ℤ, pos, ◌*ℤ◌, ◌-ℤ◌, List, ◌++◌, length, set, unsigned_abs, below_more, refl, sym, ap, ap₂, subst, ◌∙◌, arith}
use Rattle.std.specs.Prelude.{Result, Ok, Err, IfOk, OnOk, OnErr}
use Rattle.std.specs.Result.{OkIff}
use Rattle.std.proofs.lemmas.Bool.{cases_lt}
use Rattle.std.proofs.lemmas.List.{same_lists, get_or_default, length-map, get_or-set_same, get_or-set_other}
use Rattle.gj_shape.specs.Elimination.{at_column, scaled, differences, Passes}
use Rattle.gj_theory.proofs.Steps.{length-differences}
use Rattle.gj_theory.proofs.Entries.{at_scaled, at_differences}
use Rattle.gj_frac.specs.Fraction.{Fits}
use Rattle.gj_theory.specs.Fitting.{FitsCombined}
use Rattle.gj_theory.proofs.Passing.{front_passes, back_passes, either_passes, passes_at, none_pass}

-- ---- one entry

pub record IsCombination {E : Type 0} (u x w e : ℤ) (r : Result ℤ E) : Type 0 where
  pub value : IfOk r (λ z. z ≡ u *ℤ x -ℤ w *ℤ e)
  pub fits : OnOk r (FitsCombined u x w e)
  pub wide : OnErr r (FitsCombined u x w e → ⊥)

pub combination_of : {E : Type 0} (u x w e p q : ℤ) (r : Result ℤ E) → Fits (u *ℤ x) → p ≡ u *ℤ x →
    Fits (w *ℤ e) →
    q ≡ w *ℤ e → OkIff r (Fits (p -ℤ q)) (p -ℤ q) → IsCombination u x w e r
combination_of u x w e p q (Ok z) first p_is second q_is h =
    let same : p -ℤ q ≡ u *ℤ x -ℤ w *ℤ e = ap₂ (λ a b. a -ℤ b) p_is q_is in record {
      value = h.1 ∙ same;
      fits = record { first = first; second = second; difference = subst Fits same h.0 };
      wide = tt;
    }
combination_of u x w e p q (Err d) first p_is second q_is h =
    let same : p -ℤ q ≡ u *ℤ x -ℤ w *ℤ e = ap₂ (λ a b. a -ℤ b) p_is q_is in record {
      value = tt;
      fits = tt;
      wide = λ all. h (subst Fits (sym same) all.difference);
    }

-- ---- the entries so far

pub record AreCombined (u w : ℤ) (old kept row : List ℤ) (i : ℕ) : Type 0 where
  pub done : (k : ℕ) → k < i → at_column row k ≡ u *ℤ at_column old k -ℤ w *ℤ at_column kept k
  pub fit : (k : ℕ) → k < i → FitsCombined u (at_column old k) w (at_column kept k)
  pub later : (k : ℕ) → i ≤ k → at_column row k ≡ at_column old k

pub combined_start : (u w : ℤ) (old kept : List ℤ) → AreCombined u w old kept old 0
combined_start u w old kept = record {
  done = λ k below. absurd (omega arith);
  fit = λ k below. absurd (omega arith);
  later = λ k from. refl;
}

pub combined_more : (u w : ℤ) (old kept row : List ℤ) (i : ℕ) (z : ℤ) →
    AreCombined u w old kept row i → i < length row →
    z ≡ u *ℤ at_column row i -ℤ w *ℤ at_column kept i →
    FitsCombined u (at_column row i) w (at_column kept i) →
    AreCombined u w old kept (set row i z) (i + 1)
combined_more u w old kept row i z h inside is fits = record {
  done = below_more (λ k. at_column (set row i z) k ≡ u *ℤ at_column old k -ℤ w *ℤ at_column kept k)
      i
      (λ k below. get_or-set_other row i k z (pos 0) (omega arith) ∙ h.done k below)
      (get_or-set_same row i z (pos 0) inside ∙ is
      ∙ ap (λ x. u *ℤ x -ℤ w *ℤ at_column kept i) (h.later i (omega arith)));
  fit = below_more (λ k. FitsCombined u (at_column old k) w (at_column kept k)) i h.fit
      (subst (λ (x : ℤ). FitsCombined u x w (at_column kept i)) (h.later i (omega arith)) fits);
  later = λ k from. get_or-set_other row i k z (pos 0) (omega arith) ∙ h.later k (omega arith);
}

-- all entries
abbrev combination_of_rows : ℤ → ℤ → List ℤ → List ℤ → List ℤ
combination_of_rows u w old kept = differences (scaled u old) (scaled w kept)

-- the numbers that are marked
abbrev pub marked_numbers : ℤ → ℤ → List ℤ → List ℤ → List ℤ
marked_numbers u w old kept = scaled u old ++ scaled w kept ++ combination_of_rows u w old kept

lengths : (u w : ℤ) (old kept : List ℤ) → length kept ≡ length old →
    (length (scaled u old) ≡ length old) × (length (scaled w kept) ≡ length old)
    × (length (combination_of_rows u w old kept) ≡ length old)
lengths u w old kept e =
    let first = length-map old (λ x. u *ℤ x) in
    let second = length-map kept (λ x. w *ℤ x) ∙ e in
    (first, second, length-differences (scaled u old) (scaled w kept) (first ∙ sym second) ∙ first)

at_combination : (u w : ℤ) (old kept : List ℤ) (k : ℕ) → length kept ≡ length old →
    at_column (combination_of_rows u w old kept) k ≡ u *ℤ at_column old k -ℤ w *ℤ at_column kept k
at_combination u w old kept k e =
    let (first, second, third) = lengths u w old kept e in
    at_differences (scaled u old) (scaled w kept) k (first ∙ sym second)
    ∙ ap₂ (λ a b. a -ℤ b) (at_scaled u old k) (at_scaled w kept k)

pub combined_value : (u w : ℤ) (old kept row : List ℤ) (i : ℕ) → AreCombined u w old kept row i →
    length kept ≡ length old →
    length row ≡ length old → length row ≤ i → row ≡ differences (scaled u old) (scaled w kept)
combined_value u w old kept row i h e len all =
    let (first, second, third) = lengths u w old kept e in
    same_lists row (combination_of_rows u w old kept) (len ∙ sym third)
    (λ k d below.
    get_or_default row k d (pos 0) below ∙ h.done k (omega arith)
    ∙ sym (at_combination u w old kept k e)
    ∙ get_or_default (combination_of_rows u w old kept) k (pos 0) d (omega arith))

pub combined_narrow : (u w : ℤ) (old kept row : List ℤ) (i : ℕ) → AreCombined u w old kept row i →
    length kept ≡ length old → length row ≡ length old → length row ≤ i →
    Passes (marked_numbers u w old kept) → ⊥
combined_narrow u w old kept row i h e len all passes =
    by_part (either_passes (scaled u old ++ scaled w kept)
    (combination_of_rows u w old kept) passes)
  where
    products : Passes (scaled u old) ⊎ Passes (scaled w kept) → ⊥
    products (inl p) =
        none_pass (scaled u old)
        (λ k below. subst Fits (sym (at_scaled u old k))
        (h.fit k (omega (arith, lengths u w old kept e))).first) p
    products (inr p) =
        none_pass (scaled w kept)
        (λ k below. subst Fits (sym (at_scaled w kept k))
        (h.fit k (omega (arith, lengths u w old kept e))).second) p

    by_part : Passes (scaled u old ++ scaled w kept) ⊎ Passes (combination_of_rows u w old kept) → ⊥
    by_part (inl p) = products (either_passes (scaled u old) (scaled w kept) p)
    by_part (inr p) =
        none_pass (combination_of_rows u w old kept)
        (λ k below. subst Fits (sym (at_combination u w old kept k e))
        (h.fit k (omega (arith, lengths u w old kept e))).difference) p

pub combined_wide : (u w : ℤ) (old kept row : List ℤ) (i : ℕ) → AreCombined u w old kept row i →
    length kept ≡ length old → length row ≡ length old → i < length row →
    (FitsCombined u (at_column row i) w (at_column kept i) → ⊥) →
    Passes (marked_numbers u w old kept)
combined_wide u w old kept row i h e len inside wide =
    by_first (cases_lt (unsigned_abs (u *ℤ at_column old i)) (2 ^ 127))
  where
    narrow : FitsCombined u (at_column old i) w (at_column kept i) → ⊥
    narrow fits = wide (subst (λ (x : ℤ). FitsCombined u x w (at_column kept i))
        (sym (h.later i (omega arith))) fits)

    by_third : Fits (u *ℤ at_column old i) → Fits (w *ℤ at_column kept i) →
        (unsigned_abs (u *ℤ at_column old i -ℤ w *ℤ at_column kept i) < 2 ^ 127)
        ⊎ (2 ^ 127 ≤ unsigned_abs (u *ℤ at_column old i -ℤ w *ℤ at_column kept i)) →
        Passes (marked_numbers u w old kept)
    by_third first second (inl small) =
        absurd (narrow record { first = first; second = second; difference = small })
    by_third first second (inr large) =
        back_passes (scaled u old ++ scaled w kept) (combination_of_rows u w old kept)
        (passes_at (combination_of_rows u w old kept) i (omega (arith, lengths u w old kept e))
        (subst (λ (x : ℤ). 2 ^ 127 ≤ unsigned_abs x) (sym (at_combination u w old kept i e)) large))

    by_second : Fits (u *ℤ at_column old i) →
        (unsigned_abs (w *ℤ at_column kept i) < 2 ^ 127)
        ⊎ (2 ^ 127 ≤ unsigned_abs (w *ℤ at_column kept i)) →
        Passes (marked_numbers u w old kept)
    by_second first (inl small) =
        by_third first small
        (cases_lt (unsigned_abs (u *ℤ at_column old i -ℤ w *ℤ at_column kept i)) (2 ^ 127))
    by_second first (inr large) =
        front_passes (scaled u old ++ scaled w kept) (combination_of_rows u w old kept)
        (back_passes (scaled u old) (scaled w kept)
        (passes_at (scaled w kept) i (omega (arith, lengths u w old kept e))
        (subst (λ (x : ℤ). 2 ^ 127 ≤ unsigned_abs x) (sym (at_scaled w kept i)) large)))

    by_first : (unsigned_abs (u *ℤ at_column old i) < 2 ^ 127)
        ⊎ (2 ^ 127 ≤ unsigned_abs (u *ℤ at_column old i)) →
        Passes (marked_numbers u w old kept)
    by_first (inl small) =
        by_second small (cases_lt (unsigned_abs (w *ℤ at_column kept i)) (2 ^ 127))
    by_first (inr large) =
        front_passes (scaled u old ++ scaled w kept) (combination_of_rows u w old kept)
        (front_passes (scaled u old) (scaled w kept)
        (passes_at (scaled u old) i (omega (arith, lengths u w old kept e))
        (subst (λ (x : ℤ). 2 ^ 127 ≤ unsigned_abs x) (sym (at_scaled u old i)) large)))
