-- A step of the elimination keeps the solutions.
use Rattle.std.proofs.Common.{◌≡◌, ℕ, suc, ◌≢◌, ⊎_elim, Bool, true, false, if◌then◌else◌, int_lt, neg_ℤ, ℤ, pos, ◌-ℤ◌, ◌*ℤ◌, ◌<ℤ◌, List, [], ◌∷◌, length, map, unsigned_abs, refl, sym, ap, ap₂, subst, ◌∙◌, arith}
use Rattle.std.proofs.lemmas.Int.{ints}
use Rattle.std.proofs.lemmas.List.{length-map}
use Rattle.gj_lemmas.proofs.Integers.{mul_cancel_left_z}
use Rattle.gj_lemmas.proofs.Divisors.{gcd_of_is}
use Rattle.gj_lemmas.specs.Divisors.{gcd_of}
use Rattle.gj_frac.proofs.Reduced.{quotient_of_divisor}
use Rattle.gj_shape.specs.SlopeRows.{sum_of_products}
use Rattle.gj_shape.specs.Elimination.{at_column, divided, scaled, differences, row_factor, kept_factor, eliminated, reduced, kept_entries, gcd_of_row}
use Rattle.gj_theory.specs.TriangularRows.{Solves}
use Rattle.gj_theory.proofs.RowSums.{sum_scaled, sum_differences, solves_divided, divided_zero, divided_some, zero_or_not}

-- ---- sums

-- of u times a row less v times another
pub sum_combined : (u v : ℤ) (xs ys w : List ℤ) → length ys ≡ length xs →
    sum_of_products (differences (scaled u xs) (scaled v ys)) w ≡ u *ℤ sum_of_products xs w -ℤ v
    *ℤ sum_of_products ys w
sum_combined u v xs ys w e =
    sum_differences (scaled u xs) (scaled v ys) w (length-map xs (λ x. u *ℤ x) ∙ sym e
    ∙ sym (length-map ys (λ y. v *ℤ y)))
    ∙ ap₂ (λ a b. a -ℤ b) (sum_scaled u xs w) (sum_scaled v ys w)

sum_eliminated : (kept row w : List ℤ) (c : ℕ) → length kept ≡ length row →
    sum_of_products (eliminated kept row c) w
    ≡ row_factor kept row c *ℤ sum_of_products row w -ℤ kept_factor kept row c
    *ℤ sum_of_products kept w
unfolding eliminated
sum_eliminated kept row w c e =
    sum_combined (row_factor kept row c) (kept_factor kept row c) row kept w e

-- ---- the step

pub solves_reduced : (kept row w : List ℤ) (c : ℕ) → length kept ≡ length row → Solves w kept →
    Solves w row →
    Solves w (reduced kept row c)
unfolding reduced
solves_reduced kept row w c e k r =
    (solves_divided (eliminated kept row c) w).1
    (sum_eliminated kept row w c e
    ∙ ap₂ (λ a b. row_factor kept row c *ℤ a -ℤ kept_factor kept row c *ℤ b) r k
    ∙ zeros (row_factor kept row c) (kept_factor kept row c))
  where
    zeros : (u v : ℤ) → u *ℤ pos 0 -ℤ v *ℤ pos 0 ≡ pos 0
    zeros u v = omega (arith, ints)

-- the factor of the row is not 0
pub row_factor_times : (kept row : List ℤ) (c : ℕ) →
    row_factor kept row c *ℤ pos
    (gcd_of (unsigned_abs (at_column row c)) (unsigned_abs (at_column kept c)))
    ≡ at_column kept c
row_factor_times kept row c =
    quotient_of_divisor (at_column kept c)
    (pos (gcd_of (unsigned_abs (at_column row c)) (unsigned_abs (at_column kept c))))
    (gcd_of_is (unsigned_abs (at_column row c)) (unsigned_abs (at_column kept c))).1

pub kept_factor_times : (kept row : List ℤ) (c : ℕ) →
    kept_factor kept row c *ℤ pos
    (gcd_of (unsigned_abs (at_column row c)) (unsigned_abs (at_column kept c)))
    ≡ at_column row c
kept_factor_times kept row c =
    quotient_of_divisor (at_column row c)
    (pos (gcd_of (unsigned_abs (at_column row c)) (unsigned_abs (at_column kept c))))
    (gcd_of_is (unsigned_abs (at_column row c)) (unsigned_abs (at_column kept c))).0

row_factor_some : (kept row : List ℤ) (c : ℕ) → pos 0 <ℤ at_column kept c →
    unsigned_abs (row_factor kept row c) ≢ 0
row_factor_some kept row c some e =
    let times = row_factor_times kept row c in
    none (row_factor kept row c)
    (pos (gcd_of (unsigned_abs (at_column row c)) (unsigned_abs (at_column kept c))))
    (at_column kept c) times some e
  where
    none : (u g x : ℤ) → u *ℤ g ≡ x → pos 0 <ℤ x → unsigned_abs u ≡ 0 → ⊥
    none u g x is above zero =
        let u_zero : u ≡ pos 0 = omega (arith, ints) in
        let x_zero : pos 0 *ℤ g ≡ x = subst (λ (v : ℤ). v *ℤ g ≡ x) u_zero is in
        omega (arith, ints)

pub solves_before : (kept row w : List ℤ) (c : ℕ) → length kept ≡ length row →
    pos 0 <ℤ at_column kept c →
    Solves w kept → Solves w (reduced kept row c) → Solves w row
unfolding reduced
solves_before kept row w c e some k r =
    let all : sum_of_products (eliminated kept row c) w ≡ pos 0 =
    (solves_divided (eliminated kept row c) w).0 r in
    let sum : row_factor kept row c *ℤ sum_of_products row w -ℤ kept_factor kept row c
    *ℤ sum_of_products kept w ≡ pos 0 =
    sym (sum_eliminated kept row w c e) ∙ all in
    let no_kept = subst (λ (s : ℤ). row_factor kept row c *ℤ sum_of_products row w
    -ℤ kept_factor kept row c *ℤ s ≡ pos 0) k sum in
    cancel (row_factor kept row c) (kept_factor kept row c) (sum_of_products row w) no_kept
    (row_factor_some kept row c some)
  where
    cancel : (u v s : ℤ) → u *ℤ s -ℤ v *ℤ pos 0 ≡ pos 0 → unsigned_abs u ≢ 0 → s ≡ pos 0
    cancel u v s h some =
        let product : u *ℤ s ≡ u *ℤ pos 0 = omega (arith, ints) in
        mul_cancel_left_z s (pos 0) u product some

-- ---- lengths

pub length-differences : (xs ys : List ℤ) → length xs ≡ length ys →
    length (differences xs ys) ≡ length xs
length-differences [] ys e = refl
length-differences (x ∷ xs) [] e = absurd (omega arith)
length-differences (x ∷ xs) (y ∷ ys) e = ap suc (length-differences xs ys (omega arith))

pub length-divided : (row : List ℤ) → length (divided row) ≡ length row
length-divided row =
    ⊎_elim (λ e. ap length (divided_zero row e)) (λ e. ap length (divided_some row e)
    ∙ length-map row _) (zero_or_not (gcd_of_row row))

pub length-eliminated : (kept row : List ℤ) (c : ℕ) → length kept ≡ length row →
    length (eliminated kept row c) ≡ length row
unfolding eliminated
length-eliminated kept row c e =
    let first = length-map row (λ x. row_factor kept row c *ℤ x) in
    let second = length-map kept (λ x. kept_factor kept row c *ℤ x) in
    length-differences (scaled (row_factor kept row c) row) (scaled (kept_factor kept row c) kept)
    (first ∙ sym e ∙ sym second) ∙ first

pub length-reduced : (kept row : List ℤ) (c : ℕ) → length kept ≡ length row →
    length (reduced kept row c) ≡ length row
unfolding reduced
length-reduced kept row c e = length-divided (eliminated kept row c)
    ∙ length-eliminated kept row c e

pub length-kept_entries : (row : List ℤ) (c : ℕ) → length (kept_entries row c) ≡ length row
unfolding kept_entries
length-kept_entries row c = by_sign (int_lt (at_column row c) (pos 0))
  where
    by_sign : (b : Bool) → length (if b then map neg_ℤ (divided row) else divided row) ≡ length row
    by_sign true = length-map (divided row) neg_ℤ ∙ length-divided row
    by_sign false = length-divided row
