-- The entries of a row after a step, and after it is divided.
use Rattle.std.proofs.Common.{◌≡◌, ◌≢◌, ℕ, zero, suc, ◌<◌, Bool, true, false, if◌then◌else◌, ℤ, pos, ◌+ℤ◌, ◌-ℤ◌, ◌*ℤ◌, neg_ℤ, ◌<ℤ◌, int_lt, List, [], ◌∷◌, length, map, unsigned_abs, refl, sym, ap, ap₂, ◌∙◌, arith}
use Rattle.std.proofs.lemmas.Int.{ints}
use Rattle.std.proofs.lemmas.List.{length-map}
use Rattle.gj_lemmas.specs.Divisors.{gcd_of}
use Rattle.gj_lemmas.proofs.Integers.{mul_cancel_left_z, mul_lt_cancel_left_z, mul_left_comm_z, abs_zero_z}
use Rattle.gj_shape.specs.SlopeRows.{sum_of_products}
use Rattle.gj_shape.specs.Elimination.{at_column, scaled, differences, divided, eliminated, reduced, kept_entries, row_factor, kept_factor}
use Rattle.gj_theory.specs.TriangularRows.{Solves}
use Rattle.gj_theory.proofs.RowSums.{divided_times}
use Rattle.gj_theory.proofs.Steps.{row_factor_times, kept_factor_times}

-- ---- entries

pub at_scaled : (u : ℤ) (xs : List ℤ) (i : ℕ) → at_column (scaled u xs) i ≡ u *ℤ at_column xs i
at_scaled u [] i = omega (arith, ints)
at_scaled u (x ∷ xs) zero = refl
at_scaled u (x ∷ xs) (suc i) = at_scaled u xs i

pub at_differences : (xs ys : List ℤ) (i : ℕ) → length xs ≡ length ys →
    at_column (differences xs ys) i ≡ at_column xs i -ℤ at_column ys i
at_differences [] [] i e = refl
at_differences [] (y ∷ ys) i e = absurd (omega arith)
at_differences (x ∷ xs) [] i e = absurd (omega arith)
at_differences (x ∷ xs) (y ∷ ys) zero e = refl
at_differences (x ∷ xs) (y ∷ ys) (suc i) e = at_differences xs ys i (omega arith)

pub at_negated : (xs : List ℤ) (i : ℕ) → at_column (map neg_ℤ xs) i ≡ neg_ℤ (at_column xs i)
at_negated [] i = refl
at_negated (x ∷ xs) zero = refl
at_negated (x ∷ xs) (suc i) = at_negated xs i

-- ---- a divided row

pub at_divided : (row : List ℤ) (i : ℕ) →
    (g : ℕ) × (0 < g) × (pos g *ℤ at_column (divided row) i ≡ at_column row i)
at_divided row i =
    let (g, some, is) = divided_times row in
    (g, some, sym (at_scaled (pos g) (divided row) i) ∙ ap (λ xs. at_column xs i) is)

pub divided_at_zero : (row : List ℤ) (i : ℕ) → at_column row i ≡ pos 0 →
    at_column (divided row) i ≡ pos 0
divided_at_zero row i e =
    let (g, some, is) = at_divided row i in
    mul_cancel_left_z (at_column (divided row) i) (pos 0) (pos g) (is ∙ e ∙ times_zero g)
    (λ none. omega arith)
  where
    times_zero : (g : ℕ) → pos 0 ≡ pos g *ℤ pos 0
    times_zero g = omega (arith, ints)

pub divided_at_positive : (row : List ℤ) (i : ℕ) → pos 0 <ℤ at_column row i →
    pos 0 <ℤ at_column (divided row) i
divided_at_positive row i h =
    let (g, some, is) = at_divided row i in
    let zero_times : pos g *ℤ pos 0 ≡ pos 0 = omega (arith, ints) in
    mul_lt_cancel_left_z (pos 0) (at_column (divided row) i) (pos g) (omega (arith, ints))
    (omega (arith, ints))

pub divided_at_negative : (row : List ℤ) (i : ℕ) → at_column row i <ℤ pos 0 →
    at_column (divided row) i <ℤ pos 0
divided_at_negative row i h =
    let (g, some, is) = at_divided row i in
    let zero_times : pos g *ℤ pos 0 ≡ pos 0 = omega (arith, ints) in
    mul_lt_cancel_left_z (at_column (divided row) i) (pos 0) (pos g) (omega (arith, ints))
    (omega (arith, ints))

-- ---- a row after a step

pub at_eliminated : (kept row : List ℤ) (c i : ℕ) → length kept ≡ length row →
    at_column (eliminated kept row c) i
    ≡ row_factor kept row c *ℤ at_column row i -ℤ kept_factor kept row c *ℤ at_column kept i
unfolding eliminated
at_eliminated kept row c i e =
    at_differences (scaled (row_factor kept row c) row) (scaled (kept_factor kept row c) kept) i
    (length-map row (λ x. row_factor kept row c *ℤ x) ∙ sym e
    ∙ sym (length-map kept (λ y. kept_factor kept row c *ℤ y)))
    ∙ ap₂ (λ a b. a -ℤ b) (at_scaled (row_factor kept row c) row i)
    (at_scaled (kept_factor kept row c) kept i)

-- 0 if both rows are
pub reduced_at_zero : (kept row : List ℤ) (c i : ℕ) → length kept ≡ length row →
    at_column kept i ≡ pos 0 →
    at_column row i ≡ pos 0 → at_column (reduced kept row c) i ≡ pos 0
unfolding reduced
reduced_at_zero kept row c i e k r =
    divided_at_zero (eliminated kept row c) i
    (at_eliminated kept row c i e
    ∙ ap₂ (λ a b. row_factor kept row c *ℤ a -ℤ kept_factor kept row c *ℤ b) r k
    ∙ zeros (row_factor kept row c) (kept_factor kept row c))
  where
    zeros : (u v : ℤ) → u *ℤ pos 0 -ℤ v *ℤ pos 0 ≡ pos 0
    zeros u v = omega (arith, ints)

-- and at the column of the step
pub reduced_at_column : (kept row : List ℤ) (c : ℕ) → length kept ≡ length row →
    at_column (reduced kept row c) c ≡ pos 0
unfolding reduced
reduced_at_column kept row c e =
    divided_at_zero (eliminated kept row c) c
    (at_eliminated kept row c c e
    ∙ crossed (row_factor kept row c) (kept_factor kept row c)
    (pos (gcd_of (unsigned_abs (at_column row c)) (unsigned_abs (at_column kept c))))
    (at_column kept c) (at_column row c)
    (row_factor_times kept row c) (kept_factor_times kept row c))
  where
    crossed : (u v g k r : ℤ) → u *ℤ g ≡ k → v *ℤ g ≡ r → u *ℤ r -ℤ v *ℤ k ≡ pos 0
    crossed u v g k r k_is r_is =
        let first : u *ℤ r ≡ u *ℤ (v *ℤ g) = ap (λ z. u *ℤ z) (sym r_is) in
        let second : v *ℤ k ≡ v *ℤ (u *ℤ g) = ap (λ z. v *ℤ z) (sym k_is) in
        let swap : u *ℤ (v *ℤ g) ≡ v *ℤ (u *ℤ g) = mul_left_comm_z u v g in
        let same : u *ℤ r ≡ v *ℤ k = first ∙ swap ∙ sym second in
        omega (arith, ints)

-- ---- a row as it is kept

pub kept_at_zero : (row : List ℤ) (c i : ℕ) → at_column row i ≡ pos 0 →
    at_column (kept_entries row c) i ≡ pos 0
unfolding kept_entries
kept_at_zero row c i e = by_sign (int_lt (at_column row c) (pos 0))
  where
    by_sign : (b : Bool) → at_column (if b then map neg_ℤ (divided row) else divided row) i ≡ pos 0
    by_sign true = at_negated (divided row) i ∙ ap neg_ℤ (divided_at_zero row i e)
    by_sign false = divided_at_zero row i e

pub kept_at_pivot : (row : List ℤ) (c : ℕ) → at_column row c ≢ pos 0 →
    pos 0 <ℤ at_column (kept_entries row c) c
unfolding kept_entries
kept_at_pivot row c some = by_sign (int_lt (at_column row c) (pos 0)) refl
  where
    by_sign : (b : Bool) → int_lt (at_column row c) (pos 0) ≡ b →
        pos 0 <ℤ at_column (if b then map neg_ℤ (divided row) else divided row) c
    by_sign true e =
        let below : at_column row c <ℤ pos 0 = omega (arith, ints) in
        let turned = at_negated (divided row) c in
        let negative = divided_at_negative row c below in
        omega (arith, ints)
    by_sign false e =
        let apart : unsigned_abs (at_column row c) ≢ 0 =
        λ z. some (abs_zero_z (at_column row c) z) in
        let above : pos 0 <ℤ at_column row c = omega (arith, ints) in
        divided_at_positive row c above

-- ---- a row of zeros

pub zeros_solved : (row w : List ℤ) → ((i : ℕ) → i < length row → at_column row i ≡ pos 0) →
    Solves w row
zeros_solved [] w h = refl
zeros_solved (x ∷ xs) [] h = refl
zeros_solved (x ∷ xs) (v ∷ w) h =
    let here : x ≡ pos 0 = h 0 (omega arith) in
    let more : sum_of_products xs w ≡ pos 0 =
    zeros_solved xs w (λ i below. h (suc i) (omega arith)) in
    ap₂ (λ a b. a *ℤ v +ℤ b) here more ∙ zero_times v
  where
    zero_times : (v : ℤ) → pos 0 *ℤ v +ℤ pos 0 ≡ pos 0
    zero_times v = omega (arith, ints)
