-- The numbers of the kernel are at most 2^127 - 1 in absolute value, if none of the marked ones is
-- above.
use Rattle.std.proofs.Common.{mul-le-mul_left, ◌≡◌, ℕ, zero, suc, ◌<◌, ◌≤◌, ◌^◌, ◌*◌, ◌==◌, ◌⊎◌, inl, inr, Bool, true, false, if◌then◌else◌, Option, None, Some, ℤ, pos, ◌+ℤ◌, ◌*ℤ◌, neg_ℤ, int_div, List, [], ◌∷◌, ◌++◌, unsigned_abs, sym, ap, subst, ◌∙◌, arith}
use Rattle.std.proofs.Math.Nat.{eq-zero-or-pos}
use Rattle.std.specs.Prelude.{All}
use Rattle.std.proofs.lemmas.Bool.{cases_lt}
use Rattle.std.proofs.lemmas.Int.{ints}
use Rattle.std.proofs.lemmas.List.Elements.{All-set}
use Rattle.gj_lemmas.specs.Divisors.{gcd_of}
use Rattle.gj_lemmas.proofs.Choices.{same_some}
use Rattle.gj_lemmas.proofs.Divisors.{gcd_of_is}
use Rattle.gj_lemmas.proofs.Lists.{All-made}
use Rattle.gj_lemmas.proofs.Integers.{unsigned_abs-mul, abs_neg_z}
use Rattle.gj_frac.proofs.Reduced.{quotient_of_divisor}
use Rattle.gj_shape.specs.SlopeRows.{total}
use Rattle.gj_shape.specs.Elimination.{KeptRow, Solution, at_column, row_with_pivot, entries_of, products_behind, partial_sums, solving_gcd, solving_products, solved_at, marked_in_solving, solution_below, solution_from, free_column, unit_row, kernel, Passes}
use Rattle.gj_theory.proofs.Passing.{first_passes, later_passes, front_passes, back_passes, all_fit}
use Rattle.gj_frac.specs.Fraction.{Fits}

-- a factor is at most the product
pub factor_small : (u : ℤ) (g : ℕ) (x : ℤ) → 0 < g → u *ℤ pos g ≡ x →
    unsigned_abs u ≤ unsigned_abs x
factor_small u g x some e =
    let product : unsigned_abs u * g ≡ unsigned_abs x = sym (unsigned_abs-mul u (pos g))
    ∙ ap unsigned_abs e in
    let more : unsigned_abs u * 1 ≤ unsigned_abs u * g = mul-le-mul_left (unsigned_abs u) some in
    omega arith

-- ---- one row is solved

first_fits : (x : ℤ) (xs : List ℤ) → (Passes (x ∷ xs) → ⊥) → Fits x
first_fits x xs narrow = by_size (cases_lt (unsigned_abs x) (2 ^ 127))
  where
    by_size : (unsigned_abs x < 2 ^ 127) ⊎ (2 ^ 127 ≤ unsigned_abs x) → Fits x
    by_size (inl small) = small
    by_size (inr large) = absurd (narrow (first_passes x xs large))

plus_none : (s : ℤ) → s ≡ s +ℤ pos 0
plus_none s = omega (arith, ints)

plus_both : (s x t : ℤ) → s +ℤ x +ℤ t ≡ s +ℤ (x +ℤ t)
plus_both s x t = omega (arith, ints)

-- the last of the partial sums is the sum of all
sum_fits : (s : ℤ) (xs : List ℤ) → Fits s → (Passes (partial_sums s xs) → ⊥) → Fits (s +ℤ total xs)
sum_fits s [] fits narrow = subst Fits (plus_none s) fits
sum_fits s (x ∷ xs) fits narrow =
    let sums = partial_sums (s +ℤ x) xs in
    let here = first_fits (s +ℤ x) sums narrow in
    subst Fits (plus_both s x (total xs))
    (sum_fits (s +ℤ x) xs here (λ p. narrow (later_passes (s +ℤ x) sums p)))

times_zero : (u t : ℤ) → u *ℤ pos 0 ≡ t → t ≡ pos 0
times_zero u t e = omega (arith, ints)

quotient_fits : (t : ℤ) (m : ℕ) → Fits t → Fits (int_div t (pos (gcd_of (unsigned_abs t) m)))
quotient_fits t m fits = by_divisor (gcd_of (unsigned_abs t) m)
    (quotient_of_divisor t (pos (gcd_of (unsigned_abs t) m)) (gcd_of_is (unsigned_abs t) m).0)
    (eq-zero-or-pos (gcd_of (unsigned_abs t) m))
  where
    none : Fits (int_div (pos 0) (pos 0))
    none = omega arith

    by_divisor : (g : ℕ) → int_div t (pos g) *ℤ pos g ≡ t → (g ≡ 0) ⊎ (0 < g) →
        Fits (int_div t (pos g))
    by_divisor g exact (inl is) =
        let at_zero : int_div t (pos 0) *ℤ pos 0 ≡ t =
        subst (λ (d : ℕ). int_div t (pos d) *ℤ pos d ≡ t) is exact in
        let t_is = times_zero (int_div t (pos 0)) t at_zero in
        subst (λ (d : ℕ). Fits (int_div t (pos d))) (sym is)
        (subst (λ (x : ℤ). Fits (int_div x (pos 0))) (sym t_is) none)
    by_divisor g exact (inr some) =
        let less = factor_small (int_div t (pos g)) g t some exact in
        omega arith

solved_fits : (row w : List ℤ) (j : ℕ) → (Passes (marked_in_solving row j w) → ⊥) →
    All Fits (solved_at row j w)
unfolding solved_at marked_in_solving
solved_fits row w j narrow =
    let ps = products_behind j row w in
    let sums = partial_sums (pos 0) ps in
    let products = solving_products row j w in
    let t = total ps in
    let zero_fits : Fits (pos 0) = omega arith in
    let sum : Fits (pos 0 +ℤ total ps) =
    sum_fits (pos 0) ps zero_fits
    (λ p. narrow (front_passes (ps ++ sums) products (back_passes ps sums p))) in
    let fits : Fits (total ps) = subst Fits (none_plus (total ps)) sum in
    let quotient = quotient_fits t (unsigned_abs (at_column row j)) fits in
    let turned : Fits (neg_ℤ (int_div t (pos (solving_gcd row j w)))) =
    subst (λ (n : ℕ). n < 2 ^ 127) (sym (abs_neg_z (int_div t (pos (solving_gcd row j w)))))
    quotient in
    All-set Fits products j (neg_ℤ (int_div t (pos (solving_gcd row j w)))) turned
    (all_fit products (λ p. narrow (back_passes (ps ++ sums) products p)))
  where
    none_plus : (s : ℤ) → pos 0 +ℤ s ≡ s
    none_plus s = omega (arith, ints)

-- ---- the kernel

below_fits : (kept : List KeptRow) (j : ℕ) (w : List ℤ) → All Fits w →
    (Passes (solution_below kept j w).marked → ⊥) →
    All Fits (solution_below kept j w).numbers
unfolding solution_below
below_fits kept zero w fits narrow = fits
below_fits kept (suc j) w fits narrow =
    let row = entries_of (row_with_pivot kept j) in
    let first = marked_in_solving row j w in
    let rest = solution_below kept j (solved_at row j w) in
    below_fits kept j (solved_at row j w)
    (solved_fits row w j (λ p. narrow (front_passes first rest.marked p)))
    (λ p. narrow (back_passes first rest.marked p))

unit_fits : (n c : ℕ) → All Fits (unit_row n c)
unit_fits n c = All-made Fits (λ j. if j == c then pos 1 else pos 0) 0 n
    (λ j below. by_test (j == c))
  where
    by_test : (b : Bool) → Fits (if b then pos 1 else pos 0)
    by_test true = omega arith
    by_test false = omega arith

pub kernel_fits : (n : ℕ) (kept : List KeptRow) (s : Solution) → kernel n kept ≡ Some s →
    (Passes s.marked → ⊥) → All Fits s.numbers
unfolding solution_from
kernel_fits n kept s e narrow = by_free (free_column n kept) e
  where
    by_free : (o : Option ℕ) → solution_from n kept o ≡ Some s → All Fits s.numbers
    by_free None is = absurd cc
    by_free (Some c) is =
        let same = same_some (solution_below kept c (unit_row n c)) s is in
        subst (λ (t : Solution). All Fits t.numbers) same
        (below_fits kept c (unit_row n c) (unit_fits n c)
        (subst (λ (t : Solution). Passes t.marked → ⊥) (sym same) narrow))
