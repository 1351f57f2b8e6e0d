-- Rows that are divided, and turned in sign.
use Rattle.std.proofs.Common.{◌≡◌, ◌≢◌, ℕ, ◌+◌, ◌-◌, ◌*◌, ◌<◌, ◌≤◌, ◌^◌, ⊎_elim, true, false, if◌then◌else◌, ℤ, pos, ◌-ℤ◌, ◌*ℤ◌, neg_ℤ, ◌<ℤ◌, int_lt, int_div, FitsSigned, to_z, of_z, List, [], ◌∷◌, ◌++◌, length, map, take, drop, get_or, set, unsigned_abs, refl, sym, ap, ap₂, subst, ◌∙◌, arith}
use Rattle.std.specs.Prelude.{All}
use Rattle.std.proofs.lemmas.Int.{ints, quot_fits, to_z-of_z, unsigned_abs-mul}
use Rattle.std.proofs.lemmas.List.{take_all, length-take-le, get_or-append_right, get_or-drop, get_or_default, append-nil, length-map}
use Rattle.std.proofs.lemmas.List.Edits.{map_over_more}
use Rattle.std.proofs.lemmas.List.Elements.{All-from_get_or, All-get_or}
use Rattle.std.proofs.Math.ListN.{drop_of_length-le}
use Rattle.std.proofs.lemmas.Nat.Gcd.{dvd_refl}
use Rattle.std.proofs.Math.Nat.{mul-le-mul_right}
use mir.Syntax.{w128}
use Rattle.gj_shape.specs.Elimination.{at_column, divided, scaled, gcd_of_row, kept_entries}
use Rattle.gj_theory.proofs.RowSums.{divided_zero, divided_some, scaled_quotients, zero_or_not}
use Rattle.gj_theory.proofs.Steps.{length-divided}
use Rattle.gj_theory.proofs.Entries.{at_divided, at_negated}
use Rattle.gj_frac.specs.Fraction.{Fits}
use Rattle.gj_theory.proofs.WideNumbers.{read_natural, read_fitting}

-- ---- a loop over all entries

-- the entry at the index is still as it was
pub over_more : (f : ℤ → ℤ) (old row : List ℤ) (i : ℕ) (z : ℤ) → i < length row →
    length row ≡ length old →
    row ≡ map f (take i old) ++ drop i old → z ≡ f (get_or row i (pos 0)) →
    set row i z ≡ map f (take (i + 1) old) ++ drop (i + 1) old
over_more f old row i z inside len is z_is =
    ap (set row i) z_is
    ∙ map_over_more f old row i (get_or row i (pos 0)) (omega arith) is
    (sym (get_or_default row i (get_or row i (pos 0)) (pos 0) inside))

pub over_all : (f : ℤ → ℤ) (old row : List ℤ) (i : ℕ) → length row ≤ i → length row ≡ length old →
    row ≡ map f (take i old) ++ drop i old → row ≡ map f old
over_all f old row i past len is =
    is ∙ ap₂ (λ xs ys. map f xs ++ ys) (take_all i old (omega arith))
    (drop_of_length-le old (omega arith)) ∙ append-nil (map f old)

-- an entry that is still as it was
pub over_same : (f : ℤ → ℤ) (old row : List ℤ) (i : ℕ) → i < length old → length row ≡ length old →
    row ≡ map f (take i old) ++ drop i old → get_or row i (pos 0) ≡ get_or old i (pos 0)
over_same f old row i inside len is =
    let front : length (map f (take i old)) ≡ i = length-map (take i old) f
    ∙ length-take-le i old (omega arith) in
    ap (λ xs. get_or xs i (pos 0)) is
    ∙ get_or-append_right (map f (take i old)) (drop i old) i i (pos 0) front (omega arith)
    ∙ get_or-drop i old (i - i) (pos 0) ∙ ap (λ k. get_or old k (pos 0)) (omega arith)

pub over_open : (f : ℤ → ℤ) (P : ℤ → Type 0) (old row : List ℤ) (i : ℕ) → i < length old →
    length row ≡ length old →
    row ≡ map f (take i old) ++ drop i old → All P old → P (get_or row i (pos 0))
over_open f P old row i inside len is all =
    subst P (sym (over_same f old row i inside len is)) (All-get_or P old i (pos 0) inside all)

-- ---- division

-- what the code's quotient is
pub read_quotient : (x : ℤ) (d : ℕ) → FitsSigned w128 x → 0 < d → d < 2 ^ 127 →
    to_z w128 (of_z w128 (int_div (to_z w128 (of_z w128 x)) (to_z w128 d))) ≡ int_div x (pos d)
read_quotient x d fits some small =
    let inner : int_div (to_z w128 (of_z w128 x)) (to_z w128 d) ≡ int_div x (pos d) =
    ap₂ int_div (to_z-of_z w128 x fits) (read_natural d small) in
    ap (λ z. to_z w128 (of_z w128 z)) inner
    ∙ to_z-of_z w128 (int_div x (pos d)) (quot_fits w128 x (pos d) fits (omega (arith, ints)))

pub read_signed_quotient : (x d : ℤ) → FitsSigned w128 x → FitsSigned w128 d → pos 0 <ℤ d →
    to_z w128 (of_z w128 (int_div (to_z w128 (of_z w128 x)) (to_z w128 (of_z w128 d))))
    ≡ int_div x d
read_signed_quotient x d fits d_fits some =
    ap (λ z. to_z w128 (of_z w128 z))
    (ap₂ int_div (to_z-of_z w128 x fits) (to_z-of_z w128 d d_fits))
    ∙ to_z-of_z w128 (int_div x d) (quot_fits w128 x d fits some)

-- the entries of a divided row are as small
pub smaller : (g : ℕ) (q x : ℤ) → 0 < g → pos g *ℤ q ≡ x → unsigned_abs q ≤ unsigned_abs x
smaller g q x some is =
    let size : g * unsigned_abs q ≡ unsigned_abs x = sym (unsigned_abs-mul (pos g) q)
    ∙ ap unsigned_abs is in
    let more : 1 * unsigned_abs q ≤ g * unsigned_abs q = mul-le-mul_right (unsigned_abs q) some in
    omega arith

pub divided_fits : (row : List ℤ) → All Fits row → All Fits (divided row)
divided_fits row h =
    All-from_get_or Fits (divided row) (pos 0)
    (λ k below.
    let (g, some, is) = at_divided row k in
    let small = smaller g (at_column (divided row) k) (at_column row k) some is in
    let whole : Fits (at_column row k) =
    All-get_or Fits row k (pos 0) (omega (arith, length-divided row)) h in
    omega arith)

pub scaled_one : (xs : List ℤ) → scaled (pos 1) xs ≡ xs
scaled_one [] = refl
scaled_one (x ∷ xs) = ap₂ (λ y ys. y ∷ ys) (omega (arith, ints)) (scaled_one xs)

-- a divisor of at most 1 changes nothing
pub divided_small : (row : List ℤ) (d : ℕ) → d ≡ gcd_of_row row → d ≤ 1 → row ≡ divided row
divided_small row d is small = ⊎_elim none one (zero_or_not (gcd_of_row row))
  where
    none : gcd_of_row row ≡ 0 → row ≡ divided row
    none e = sym (divided_zero row e)

    one : gcd_of_row row ≢ 0 → row ≡ divided row
    one e =
        let is_one : gcd_of_row row ≡ 1 = omega arith in
        sym (divided_some row e ∙ sym (scaled_one (map (λ x. int_div x (pos (gcd_of_row row))) row))
        ∙ ap (λ g. scaled (pos g) (map (λ x. int_div x (pos (gcd_of_row row))) row)) (sym is_one)
        ∙ scaled_quotients (gcd_of_row row) row (dvd_refl (gcd_of_row row)))

pub divided_large : (row done : List ℤ) (d : ℕ) → d ≡ gcd_of_row row → 1 < d →
    done ≡ map (λ x. int_div x (pos d)) row →
    done ≡ divided row
divided_large row done d is large h =
    h ∙ ap (λ g. map (λ x. int_div x (pos g)) row) is ∙ sym (divided_some row (λ e. omega arith))

-- ---- signs

pub negated_fits : (x : ℤ) → Fits x → Fits (neg_ℤ x)
negated_fits x h = omega (arith, ints)

pub read_negated : (x : ℤ) → Fits x → to_z w128 (of_z w128 (pos 0 -ℤ to_z w128 (of_z w128 x)))
    ≡ neg_ℤ x
read_negated x fits =
    let same : pos 0 -ℤ to_z w128 (of_z w128 x) ≡ neg_ℤ x =
    ap (λ z. pos 0 -ℤ z) (read_fitting x fits) ∙ turned x in
    ap (λ z. to_z w128 (of_z w128 z)) same ∙ read_fitting (neg_ℤ x) (negated_fits x fits)
  where
    turned : (x : ℤ) → pos 0 -ℤ x ≡ neg_ℤ x
    turned x = omega (arith, ints)

pub all_negated : (row : List ℤ) → All Fits row → All Fits (map neg_ℤ row)
all_negated row h =
    All-from_get_or Fits (map neg_ℤ row) (pos 0)
    (λ k below.
    subst Fits (sym (at_negated row k))
    (negated_fits (at_column row k)
    (All-get_or Fits row k (pos 0) (omega (arith, length-map row neg_ℤ)) h)))

pub kept_negative : (row done : List ℤ) (c : ℕ) → int_lt (at_column row c) (pos 0) ≡ true →
    done ≡ map neg_ℤ (divided row) →
    done ≡ kept_entries row c
unfolding kept_entries
kept_negative row done c e h = h ∙ ap (λ b. if b then map neg_ℤ (divided row) else divided row)
    (sym e)

pub kept_positive : (row done : List ℤ) (c : ℕ) → int_lt (at_column row c) (pos 0) ≡ false →
    done ≡ divided row →
    done ≡ kept_entries row c
unfolding kept_entries
kept_positive row done c e h = h ∙ ap (λ b. if b then map neg_ℤ (divided row) else divided row)
    (sym e)
