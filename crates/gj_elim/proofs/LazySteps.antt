-- A step without divisions leaves a positive multiple of the row that the definition has, and marks
-- nothing that it does not exceed.
use Rattle.std.proofs.Common.{◌≡◌, ◌≢◌, ℕ, zero, suc, ◌*◌, ◌<◌, ◌≤◌, ◌⊎◌, inl, inr, ⊎_elim, Bool, true, false, if◌then◌else◌, ℤ, pos, ◌-ℤ◌, ◌*ℤ◌, neg_ℤ, ◌<ℤ◌, int_lt, List, [], ◌∷◌, ◌++◌, length, map, unsigned_abs, refl, sym, ap, ap₂, subst, ◌∙◌, arith}
use Rattle.std.specs.Int.{IsGcd, ◌∣◌}
use Rattle.std.proofs.lemmas.Int.{ints}
use Rattle.std.proofs.lemmas.List.{same_lists, get_or_default, length-map}
use Rattle.std.proofs.lemmas.Nat.Gcd.{dvd_trans, dvd_refl}
use Rattle.std.proofs.Math.Nat.{dvd-mul_right, mul-le-mul_right}
use Rattle.gj_lemmas.specs.Divisors.{gcd_of}
use Rattle.gj_lemmas.proofs.Divisors.{cofactor, divides_product, gcd_of_is, gcd_is_gcd_of, gcd_positive, gcd_scaled}
use Rattle.gj_lemmas.proofs.Integers.{unsigned_abs-mul, mul_cancel_left_z, mul_sub_z, mul_lt_cancel_left_z, mul_lt_mul_left_z, abs_zero_z, abs_positive_z}
use Rattle.gj_lemmas.proofs.Ring.{by_ring, ring}
use Rattle.gj_shape.specs.Elimination.{at_column, gcd_of_row, divided, scaled, differences, eliminated, reduced, marked_in_step, row_factor, kept_factor, kept_entries, Passes}
use Rattle.gj_frac.specs.Fraction.{Fits}
use Rattle.gj_theory.proofs.Entries.{at_scaled, at_differences, at_eliminated}
use Rattle.gj_theory.proofs.RowSums.{scaled_quotients, divided_some, divided_times, zero_or_not}
use Rattle.gj_theory.proofs.Steps.{row_factor_times, kept_factor_times, length-differences, length-eliminated}
use Rattle.gj_theory.proofs.Passing.{either_passes, none_pass}
use Rattle.gj_elim.specs.Lazy.{IsMultipleRow, IsLazyStep, AreLazyFactors}

-- ---- multiples of a row

-- a multiple has a multiple of the divisor
gcd_of_multiple : (l : ℕ) (xs : List ℤ) → gcd_of_row (scaled (pos l) xs) ≡ gcd_of_row xs * l
gcd_of_multiple l [] = omega arith
gcd_of_multiple l (x ∷ xs) =
    let size : unsigned_abs (pos l *ℤ x) ≡ unsigned_abs x * l = unsigned_abs-mul (pos l) x
    ∙ omega (arith, ints) in
    ap₂ gcd_of size (gcd_of_multiple l xs)
    ∙ sym (gcd_is_gcd_of (unsigned_abs x * l) (gcd_of_row xs * l)
    (gcd_of (unsigned_abs x) (gcd_of_row xs) * l)
    (gcd_scaled (unsigned_abs x) (gcd_of_row xs) (gcd_of (unsigned_abs x) (gcd_of_row xs)) l
    (gcd_of_is (unsigned_abs x) (gcd_of_row xs))))

-- a multiple of zeros is the same
multiple_of_zeros : (l : ℕ) (xs : List ℤ) → gcd_of_row xs ≡ 0 → scaled (pos l) xs ≡ xs
multiple_of_zeros l [] e = refl
multiple_of_zeros l (x ∷ xs) e =
    let both = gcd_of_is (unsigned_abs x) (gcd_of_row xs) in
    let first : unsigned_abs x ≡ 0 =
    zero_or (unsigned_abs x)
    (λ some. gcd_positive (unsigned_abs x) (gcd_of_row xs) _ both (inl some)) in
    let later : gcd_of_row xs ≡ 0 =
    zero_or (gcd_of_row xs)
    (λ some. gcd_positive (unsigned_abs x) (gcd_of_row xs) _ both (inr some)) in
    let x_is = abs_zero_z x first in
    ap₂ (λ y ys. y ∷ ys) (ap (λ z. pos l *ℤ z) x_is ∙ times_zero l ∙ sym x_is)
    (multiple_of_zeros l xs later)
  where
    zero_or : (n : ℕ) → (0 < n → 0 < gcd_of_row (x ∷ xs)) → n ≡ 0
    zero_or zero h = refl
    zero_or (suc n) h = let some = h (omega arith) in absurd (omega arith)

    times_zero : (l : ℕ) → pos l *ℤ pos 0 ≡ pos 0
    times_zero l = omega (arith, ints)

scaled_twice : (u v : ℤ) (xs : List ℤ) → scaled u (scaled v xs) ≡ scaled (u *ℤ v) xs
scaled_twice u v [] = refl
scaled_twice u v (x ∷ xs) =
    ap₂ (λ y ys. y ∷ ys) (by_ring (u ∷ v ∷ x ∷ []) (search ring depth 40) refl)
    (scaled_twice u v xs)

scaled_cancel : (n : ℕ) (xs ys : List ℤ) → 0 < n → scaled (pos n) xs ≡ scaled (pos n) ys → xs ≡ ys
scaled_cancel n xs ys some e =
    let lengths : length xs ≡ length ys =
    sym (length-map xs (λ x. pos n *ℤ x)) ∙ ap length e ∙ length-map ys (λ x. pos n *ℤ x) in
    same_lists xs ys lengths
    (λ k d below.
    let same : pos n *ℤ at_column xs k ≡ pos n *ℤ at_column ys k =
    sym (at_scaled (pos n) xs k) ∙ ap (λ zs. at_column zs k) e ∙ at_scaled (pos n) ys k in
    get_or_default xs k d (pos 0) below ∙ mul_cancel_left_z (at_column xs k) (at_column ys k)
    (pos n) same (λ none. omega arith)
    ∙ get_or_default ys k (pos 0) d (omega arith))

exactly_divided : (xs : List ℤ) → gcd_of_row xs ≢ 0 → scaled (pos (gcd_of_row xs)) (divided xs) ≡ xs
exactly_divided xs some =
    ap (scaled (pos (gcd_of_row xs))) (divided_some xs some)
    ∙ scaled_quotients (gcd_of_row xs) xs (dvd_refl (gcd_of_row xs))

-- a multiple divided is the row divided
pub divided_multiple : (l : ℕ) (xs : List ℤ) → 0 < l → divided (scaled (pos l) xs) ≡ divided xs
divided_multiple l xs some = ⊎_elim none all (zero_or_not (gcd_of_row xs))
  where
    none : gcd_of_row xs ≡ 0 → divided (scaled (pos l) xs) ≡ divided xs
    none e = ap divided (multiple_of_zeros l xs e)

    all : gcd_of_row xs ≢ 0 → divided (scaled (pos l) xs) ≡ divided xs
    all apart =
        let g = gcd_of_row xs in
        let product : gcd_of_row (scaled (pos l) xs) ≡ g * l = gcd_of_multiple l xs in
        let more : 1 * l ≤ g * l = mul-le-mul_right l (omega arith) in
        let above : 0 < g * l = omega arith in
        let whole : scaled (pos (g * l)) (divided (scaled (pos l) xs)) ≡ scaled (pos l) xs =
        ap (λ n. scaled (pos n) (divided (scaled (pos l) xs))) (sym product)
        ∙ exactly_divided (scaled (pos l) xs) (λ e. omega arith) in
        let part : scaled (pos (g * l)) (divided xs) ≡ scaled (pos l) xs =
        ap (λ z. scaled z (divided xs)) (swapped g l)
        ∙ sym (scaled_twice (pos l) (pos g) (divided xs))
        ∙ ap (scaled (pos l)) (exactly_divided xs apart) in
        scaled_cancel (g * l) (divided (scaled (pos l) xs)) (divided xs) above (whole ∙ sym part)
      where
        swapped : (g l : ℕ) → pos (g * l) ≡ pos l *ℤ pos g
        swapped g l = by_ring (pos g ∷ pos l ∷ []) (search ring depth 40) refl

-- what is divided is divided
pub divided_twice : (xs : List ℤ) → divided (divided xs) ≡ divided xs
divided_twice xs =
    let (g, some, is) = divided_times xs in
    sym (divided_multiple g (divided xs) some) ∙ ap divided is

-- a multiple is kept with the same entries
pub kept_multiple : (l : ℕ) (xs : List ℤ) (c : ℕ) → 0 < l →
    kept_entries (scaled (pos l) xs) c ≡ kept_entries xs c
unfolding kept_entries
kept_multiple l xs c some =
    ap₂ (λ b ys. if b then map neg_ℤ ys else ys)
    (ap (λ z. int_lt z (pos 0)) (at_scaled (pos l) xs c) ∙ same_sign l (at_column xs c) some)
    (divided_multiple l xs some)
  where
    by_tests : (a b : ℤ) (s t : Bool) → int_lt a (pos 0) ≡ s → int_lt b (pos 0) ≡ t →
        (a <ℤ pos 0 → b <ℤ pos 0) →
        (b <ℤ pos 0 → a <ℤ pos 0) → s ≡ t
    by_tests a b true true e f there back = refl
    by_tests a b false false e f there back = refl
    by_tests a b true false e f there back =
        let low : a <ℤ pos 0 = omega (arith, ints) in
        let low' = there low in
        absurd (omega (arith, ints))
    by_tests a b false true e f there back =
        let low : b <ℤ pos 0 = omega (arith, ints) in
        let low' = back low in
        absurd (omega (arith, ints))

    same_sign : (l : ℕ) (x : ℤ) → 0 < l → int_lt (pos l *ℤ x) (pos 0) ≡ int_lt x (pos 0)
    same_sign l x some =
        let zero_times : pos l *ℤ pos 0 ≡ pos 0 = omega (arith, ints) in
        let above : pos 0 <ℤ pos l = omega (arith, ints) in
        by_tests (pos l *ℤ x) x (int_lt (pos l *ℤ x) (pos 0)) (int_lt x (pos 0)) refl refl
        (λ low. mul_lt_cancel_left_z x (pos 0) (pos l) above
        (subst (λ (z : ℤ). (pos l *ℤ x) <ℤ z) (sym zero_times) low))
        (λ low. subst (λ (z : ℤ). (pos l *ℤ x) <ℤ z) zero_times
        (mul_lt_mul_left_z x (pos 0) (pos l) above low))

-- ---- one step

-- the factors of the code are those of the definition, times one positive factor
record AreMore (u w u' w' : ℤ) (l : ℕ) : Type 0 where
  pub more : ℕ
  pub some : 0 < more
  pub row : u *ℤ pos l ≡ pos more *ℤ u'
  pub kept : w ≡ pos more *ℤ w'

-- g is the divisor of the step, l of the row, d the one that the code has
factors_are_more : (u w u' w' p x : ℤ) (l d g : ℕ) → 0 < l → 0 < d →
    g ≡ gcd_of (unsigned_abs x) (unsigned_abs p) → 0 < g →
    u *ℤ pos d ≡ p → w *ℤ pos d ≡ pos l *ℤ x → u' *ℤ pos g ≡ p → w' *ℤ pos g ≡ x →
    AreMore u w u' w' l
factors_are_more u w u' w' p x l d g l_some d_some g_is g_some row kept row' kept' =
    let (rest, product) = cofactor d (g * l) divides in
    let m_some : 0 < rest = positive rest product in record {
      more = rest;
      some = m_some;
      row = mul_cancel_left_z (u *ℤ pos l) (pos rest *ℤ u') (pos d)
          (crossed u u' (pos l) (pos d) (pos g) (pos rest) p (product_z rest product) row row')
          (λ e. omega arith);
      kept = mul_cancel_left_z w (pos rest *ℤ w') (pos d)
          (straight w w' (pos l) (pos d) (pos g) (pos rest) x (product_z rest product) kept kept')
          (λ e. omega arith);
    }
  where
    size_of_product : (w x : ℤ) (d : ℕ) → w *ℤ pos d ≡ x → unsigned_abs x ≡ d * unsigned_abs w
    size_of_product w x d e = ap unsigned_abs (sym e) ∙ unsigned_abs-mul w (pos d) ∙ omega arith

    divides : d ∣ g * l
    divides =
        let first : unsigned_abs x * l ≡ d * unsigned_abs w =
        omega arith ∙ sym (unsigned_abs-mul (pos l) x) ∙ size_of_product w (pos l *ℤ x) d kept in
        let second : unsigned_abs p ≡ d * unsigned_abs u = size_of_product u p d row in
        let greatest = gcd_scaled (unsigned_abs x) (unsigned_abs p) g l
        (subst (IsGcd (unsigned_abs x) (unsigned_abs p)) (sym g_is)
        (gcd_of_is (unsigned_abs x) (unsigned_abs p))) in
        greatest.2 d (divides_product d (unsigned_abs x * l) (unsigned_abs w) first)
        (dvd_trans d (divides_product d (unsigned_abs p) (unsigned_abs u) second)
        (dvd-mul_right (unsigned_abs p) l))

    positive : (m : ℕ) → g * l ≡ d * m → 0 < m
    positive zero e =
        let more : 1 * l ≤ g * l = mul-le-mul_right l g_some in
        let none : d * 0 ≡ 0 = omega arith in
        absurd (omega arith)
    positive (suc m) e = omega arith

    product_z : (m : ℕ) → g * l ≡ d * m → pos g *ℤ pos l ≡ pos d *ℤ pos m
    product_z m e =
        by_ring (pos g ∷ pos l ∷ []) (search ring depth 40) refl ∙ ap pos e
        ∙ by_ring (pos d ∷ pos m ∷ []) (search ring depth 40) refl

    crossed : (u u' l d g m p : ℤ) → g *ℤ l ≡ d *ℤ m → u *ℤ d ≡ p → u' *ℤ g ≡ p →
        d *ℤ (u *ℤ l) ≡ d *ℤ (m *ℤ u')
    crossed u u' l d g m p product row row' =
        let first : d *ℤ (u *ℤ l) ≡ (u *ℤ d) *ℤ l =
        by_ring (d ∷ u ∷ l ∷ []) (search ring depth 40) refl in
        let second : (u' *ℤ g) *ℤ l ≡ (g *ℤ l) *ℤ u' =
        by_ring (u' ∷ g ∷ l ∷ []) (search ring depth 40) refl in
        let third : (d *ℤ m) *ℤ u' ≡ d *ℤ (m *ℤ u') =
        by_ring (d ∷ m ∷ u' ∷ []) (search ring depth 40) refl in
        first ∙ ap (λ z. z *ℤ l) (row ∙ sym row') ∙ second ∙ ap (λ z. z *ℤ u') product ∙ third

    straight : (w w' l d g m x : ℤ) → g *ℤ l ≡ d *ℤ m → w *ℤ d ≡ l *ℤ x → w' *ℤ g ≡ x →
        d *ℤ w ≡ d *ℤ (m *ℤ w')
    straight w w' l d g m x product kept kept' =
        let first : d *ℤ w ≡ w *ℤ d = by_ring (d ∷ w ∷ []) (search ring depth 40) refl in
        let second : l *ℤ (w' *ℤ g) ≡ (g *ℤ l) *ℤ w' =
        by_ring (l ∷ w' ∷ g ∷ []) (search ring depth 40) refl in
        let third : (d *ℤ m) *ℤ w' ≡ d *ℤ (m *ℤ w') =
        by_ring (d ∷ m ∷ w' ∷ []) (search ring depth 40) refl in
        first ∙ kept ∙ ap (λ z. l *ℤ z) (sym kept') ∙ second ∙ ap (λ z. z *ℤ w') product ∙ third

-- the products and the difference of each entry
pub record AreNarrow (u w : ℤ) (row kept : List ℤ) : Type 0 where
  pub first : (k : ℕ) → Fits (u *ℤ at_column row k)
  pub second : (k : ℕ) → Fits (w *ℤ at_column kept k)
  pub difference : (k : ℕ) → Fits (u *ℤ at_column row k -ℤ w *ℤ at_column kept k)

-- what is less than a multiple that fits
below_multiple : (m : ℕ) (x y : ℤ) → 0 < m → y ≡ pos m *ℤ x → Fits y → Fits x
below_multiple m x y some e fits =
    let size : unsigned_abs y ≡ m * unsigned_abs x = ap unsigned_abs e
    ∙ unsigned_abs-mul (pos m) x in
    let more : 1 * unsigned_abs x ≤ m * unsigned_abs x = mul-le-mul_right (unsigned_abs x) some in
    omega arith

pub lazy_step : (kept other row next : List ℤ) (c : ℕ) (u w : ℤ) → IsMultipleRow other row →
    length kept ≡ length row →
    pos 0 <ℤ at_column kept c → AreLazyFactors (at_column kept c) (at_column row c) u w →
    AreNarrow u w row kept →
    next ≡ differences (scaled u row) (scaled w kept) → IsLazyStep kept other next c
unfolding reduced marked_in_step
lazy_step kept other row next c u w multiple len positive factors narrow next_is =
    let l = multiple.factor in
    let g = gcd_of (unsigned_abs (at_column other c)) (unsigned_abs (at_column kept c)) in
    let g_some : 0 < g =
    gcd_positive (unsigned_abs (at_column other c)) (unsigned_abs (at_column kept c)) g
    (gcd_of_is (unsigned_abs (at_column other c)) (unsigned_abs (at_column kept c)))
    (inr (abs_positive_z (at_column kept c) positive)) in
    let entry : at_column row c ≡ pos l *ℤ at_column other c = ap (λ xs. at_column xs c) multiple.is
    ∙ at_scaled (pos l) other c in
    let more = factors_are_more u w (row_factor kept other c) (kept_factor kept other c)
    (at_column kept c) (at_column other c)
    l factors.divisor g multiple.some factors.some refl g_some factors.row (factors.kept ∙ entry)
    (row_factor_times kept other c)
    (kept_factor_times kept other c) in
    by_factors more
  where
    columns : length kept ≡ length other
    columns = len ∙ ap length multiple.is ∙ length-map other (λ x. pos multiple.factor *ℤ x)

    at_row : (k : ℕ) → at_column row k ≡ pos multiple.factor *ℤ at_column other k
    at_row k = ap (λ xs. at_column xs k) multiple.is ∙ at_scaled (pos multiple.factor) other k

    by_factors : AreMore u w (row_factor kept other c) (kept_factor kept other c) multiple.factor →
        IsLazyStep kept other next c
    by_factors more = record { multiple = next_multiple; narrow = none }
      where
        u' : ℤ
        u' = row_factor kept other c

        w' : ℤ
        w' = kept_factor kept other c

        m : ℕ
        m = more.more

        first_product : (k : ℕ) → u *ℤ at_column row k ≡ pos m *ℤ (u' *ℤ at_column other k)
        first_product k =
            ap (λ z. u *ℤ z) (at_row k) ∙ outer u (pos multiple.factor) (at_column other k)
            ∙ ap (λ z. z *ℤ at_column other k) more.row
            ∙ inner (pos m) u' (at_column other k)
          where
            outer : (u l x : ℤ) → u *ℤ (l *ℤ x) ≡ (u *ℤ l) *ℤ x
            outer u l x = by_ring (u ∷ l ∷ x ∷ []) (search ring depth 40) refl

            inner : (m u x : ℤ) → (m *ℤ u) *ℤ x ≡ m *ℤ (u *ℤ x)
            inner m u x = by_ring (u ∷ m ∷ x ∷ []) (search ring depth 40) refl

        second_product : (k : ℕ) → w *ℤ at_column kept k ≡ pos m *ℤ (w' *ℤ at_column kept k)
        second_product k = ap (λ z. z *ℤ at_column kept k) more.kept
            ∙ inner (pos m) w' (at_column kept k)
          where
            inner : (m u x : ℤ) → (m *ℤ u) *ℤ x ≡ m *ℤ (u *ℤ x)
            inner m u x = by_ring (u ∷ m ∷ x ∷ []) (search ring depth 40) refl

        both : (k : ℕ) → u *ℤ at_column row k -ℤ w *ℤ at_column kept k
            ≡ pos m *ℤ (u' *ℤ at_column other k -ℤ w' *ℤ at_column kept k)
        both k =
            ap₂ (λ a b. a -ℤ b) (first_product k) (second_product k)
            ∙ sym (mul_sub_z (pos m) (u' *ℤ at_column other k) (w' *ℤ at_column kept k))

        lengths : (length (scaled u row) ≡ length row) × (length (scaled w kept) ≡ length row)
        lengths = (length-map row (λ x. u *ℤ x), length-map kept (λ x. w *ℤ x) ∙ len)

        whole : next ≡ scaled (pos m) (eliminated kept other c)
        whole =
            let (first, second) = lengths in
            let size = length-differences (scaled u row) (scaled w kept) (first ∙ sym second) in
            let size' = length-map (eliminated kept other c) (λ x. pos m *ℤ x) in
            let size'' = length-eliminated kept other c columns in
            let size''' = columns in
            next_is ∙ same_lists (differences (scaled u row) (scaled w kept))
            (scaled (pos m) (eliminated kept other c)) (omega arith)
            (λ k d below.
            get_or_default (differences (scaled u row) (scaled w kept)) k d (pos 0) below
            ∙ at_differences (scaled u row) (scaled w kept) k (first ∙ sym second)
            ∙ ap₂ (λ a b. a -ℤ b) (at_scaled u row k) (at_scaled w kept k) ∙ both k
            ∙ ap (λ z. pos m *ℤ z) (sym (at_eliminated kept other c k columns))
            ∙ sym (at_scaled (pos m) (eliminated kept other c) k)
            ∙ get_or_default (scaled (pos m) (eliminated kept other c)) k (pos 0) d (omega arith))

        joined : (a b : ℕ) → pos a *ℤ pos b ≡ pos (a * b)
        joined a b = by_ring (pos a ∷ pos b ∷ []) (search ring depth 40) refl

        next_multiple : IsMultipleRow (reduced kept other c) next
        next_multiple =
            let (d, some, is) = divided_times (eliminated kept other c) in
            let more_some = more.some in
            let product : 1 * d ≤ m * d = mul-le-mul_right d more_some in record {
              factor = m * d;
              some = omega arith;
              is = whole ∙ ap (scaled (pos m)) (sym is)
                  ∙ scaled_twice (pos m) (pos d) (divided (eliminated kept other c))
                  ∙ ap (λ z. scaled z (divided (eliminated kept other c))) (joined m d);
            }

        none : Passes (marked_in_step kept other c) → ⊥
        none p = by_part (either_passes (scaled u' other ++ scaled w' kept)
            (eliminated kept other c) p)
          where
            products : Passes (scaled u' other) ⊎ Passes (scaled w' kept) → ⊥
            products (inl q) =
                none_pass (scaled u' other)
                (λ k below. subst Fits (sym (at_scaled u' other k))
                (below_multiple m (u' *ℤ at_column other k) (u *ℤ at_column row k) more.some
                (first_product k) (narrow.first k))) q
            products (inr q) =
                none_pass (scaled w' kept)
                (λ k below. subst Fits (sym (at_scaled w' kept k))
                (below_multiple m (w' *ℤ at_column kept k) (w *ℤ at_column kept k) more.some
                (second_product k) (narrow.second k))) q

            by_part : Passes (scaled u' other ++ scaled w' kept)
                ⊎ Passes (eliminated kept other c) → ⊥
            by_part (inl q) = products (either_passes (scaled u' other) (scaled w' kept) q)
            by_part (inr q) =
                none_pass (eliminated kept other c)
                (λ k below. subst Fits (sym (at_eliminated kept other c k columns))
                (below_multiple m (u' *ℤ at_column other k -ℤ w' *ℤ at_column kept k)
                (u *ℤ at_column row k -ℤ w *ℤ at_column kept k)
                more.some (both k) (narrow.difference k))) q
