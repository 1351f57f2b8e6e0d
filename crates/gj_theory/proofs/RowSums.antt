-- Sums of products over rows that are scaled, subtracted and divided.
use Rattle.std.proofs.Common.{◌≡◌, ℕ, zero, suc, ◌<◌, ◌≢◌, ◌⊎◌, inl, inr, ⊎_elim, ◌↔◌, Bool, true, false, ℤ, pos, ◌+ℤ◌, ◌-ℤ◌, ◌*ℤ◌, neg_ℤ, List, [], ◌∷◌, length, map, if◌then◌else◌, unsigned_abs, int_div, int_lt, refl, sym, ap, ap₂, subst, ◌∙◌, arith}
use Rattle.std.specs.Int.{◌∣◌}
use Rattle.std.proofs.lemmas.Bool.{eq-eqb, ne_eqb}
use Rattle.std.proofs.lemmas.Int.{ints}
use Rattle.std.proofs.lemmas.Nat.Gcd.{dvd_trans, dvd_refl}
use Rattle.gj_lemmas.proofs.Integers.{mul_assoc_z, mul_comm_z, mul_add_z, sub_mul_z, neg_mul_z, mul_cancel_left_z}
use Rattle.gj_lemmas.proofs.Divisors.{gcd_of_is}
use Rattle.gj_frac.proofs.Reduced.{quotient_of_divisor}
use Rattle.gj_shape.specs.SlopeRows.{sum_of_products}
use Rattle.gj_shape.specs.Elimination.{at_column, divided, scaled, differences, gcd_of_row, kept_entries}
use Rattle.gj_theory.specs.TriangularRows.{Solves}

-- ---- sums

pub sum_scaled : (u : ℤ) (xs w : List ℤ) →
    sum_of_products (scaled u xs) w ≡ u *ℤ sum_of_products xs w
sum_scaled u [] w = omega (arith, ints)
sum_scaled u (x ∷ xs) [] = omega (arith, ints)
sum_scaled u (x ∷ xs) (v ∷ w) =
    let s = sum_of_products xs w in
    ap (λ z. (u *ℤ x) *ℤ v +ℤ z) (sum_scaled u xs w) ∙ ap (λ z. z +ℤ u *ℤ s) (mul_assoc_z u x v)
    ∙ sym (mul_add_z u (x *ℤ v) s)

pub sum_differences : (xs ys w : List ℤ) → length xs ≡ length ys →
    sum_of_products (differences xs ys) w ≡ sum_of_products xs w -ℤ sum_of_products ys w
sum_differences [] [] w e = refl
sum_differences [] (y ∷ ys) w e = absurd (omega arith)
sum_differences (x ∷ xs) [] w e = absurd (omega arith)
sum_differences (x ∷ xs) (y ∷ ys) [] e = refl
sum_differences (x ∷ xs) (y ∷ ys) (v ∷ w) e =
    let more : sum_of_products (differences xs ys) w
    ≡ sum_of_products xs w -ℤ sum_of_products ys w =
    sum_differences xs ys w (omega arith) in
    let here : (x -ℤ y) *ℤ v ≡ x *ℤ v -ℤ y *ℤ v = sub_mul_z x y v in
    regroup ((x -ℤ y) *ℤ v) (sum_of_products (differences xs ys) w) (x *ℤ v) (y *ℤ v)
    (sum_of_products xs w)
    (sum_of_products ys w) here more
  where
    regroup : (a b c d e f : ℤ) → a ≡ c -ℤ d → b ≡ e -ℤ f → a +ℤ b ≡ (c +ℤ e) -ℤ (d +ℤ f)
    regroup a b c d e f h k = omega (arith, ints)

pub sum_negated : (xs w : List ℤ) → sum_of_products (map neg_ℤ xs) w ≡ neg_ℤ (sum_of_products xs w)
sum_negated [] w = refl
sum_negated (x ∷ xs) [] = refl
sum_negated (x ∷ xs) (v ∷ w) =
    regroup (neg_ℤ x *ℤ v) (x *ℤ v) (sum_of_products (map neg_ℤ xs) w) (sum_of_products xs w)
    (neg_mul_z x v)
    (sum_negated xs w)
  where
    regroup : (a b c d : ℤ) → a ≡ neg_ℤ b → c ≡ neg_ℤ d → a +ℤ c ≡ neg_ℤ (b +ℤ d)
    regroup a b c d h k = omega (arith, ints)

-- ---- a row divided

-- each entry is a multiple of the divisor of the row
pub scaled_quotients : (g : ℕ) (xs : List ℤ) → g ∣ gcd_of_row xs →
    scaled (pos g) (map (λ x. int_div x (pos g)) xs) ≡ xs
scaled_quotients g [] h = refl
scaled_quotients g (x ∷ xs) h =
    let both = gcd_of_is (unsigned_abs x) (gcd_of_row xs) in
    ap₂ (λ y ys. y ∷ ys)
    (mul_comm_z (pos g) (int_div x (pos g)) ∙ quotient_of_divisor x (pos g) (dvd_trans g h both.0))
    (scaled_quotients g xs (dvd_trans g h both.1))

pub divided_zero : (row : List ℤ) → gcd_of_row row ≡ 0 → divided row ≡ row
unfolding divided
divided_zero row e =
    ap (λ b. if b then row else map (λ x. int_div x (pos (gcd_of_row row))) row)
    (eq-eqb (gcd_of_row row) 0 e)

pub divided_some : (row : List ℤ) → gcd_of_row row ≢ 0 →
    divided row ≡ map (λ x. int_div x (pos (gcd_of_row row))) row
unfolding divided
divided_some row e =
    ap (λ b. if b then row else map (λ x. int_div x (pos (gcd_of_row row))) row)
    (ne_eqb (gcd_of_row row) 0 e)

pub zero_or_not : (n : ℕ) → (n ≡ 0) ⊎ (n ≢ 0)
zero_or_not zero = inl refl
zero_or_not (suc n) = inr (λ e. omega arith)

-- a row is its divided row, times a positive factor
pub divided_times : (row : List ℤ) → (g : ℕ) × (0 < g) × (scaled (pos g) (divided row) ≡ row)
divided_times row = ⊎_elim zero_case some_case (zero_or_not (gcd_of_row row))
  where
    scaled_one : (xs : List ℤ) → scaled (pos 1) xs ≡ xs
    scaled_one [] = refl
    scaled_one (x ∷ xs) = ap₂ (λ y ys. y ∷ ys) (omega (arith, ints)) (scaled_one xs)

    zero_case : gcd_of_row row ≡ 0 → (g : ℕ) × (0 < g) × (scaled (pos g) (divided row) ≡ row)
    zero_case e = (1, omega arith, ap (scaled (pos 1)) (divided_zero row e) ∙ scaled_one row)

    some_case : gcd_of_row row ≢ 0 → (g : ℕ) × (0 < g) × (scaled (pos g) (divided row) ≡ row)
    some_case e = (
      gcd_of_row row,
      omega arith,
      ap (scaled (pos (gcd_of_row row))) (divided_some row e)
          ∙ scaled_quotients (gcd_of_row row) row (dvd_refl _),
    )

pub solves_scaled : (u : ℤ) (row w : List ℤ) → unsigned_abs u ≢ 0 →
    (Solves w (scaled u row) ↔ Solves w row)
solves_scaled u row w some = (
  λ h. mul_cancel_left_z (sum_of_products row w) (pos 0) u
      (sym (sum_scaled u row w) ∙ h ∙ sym (times_zero u)) some,
  λ h. sum_scaled u row w ∙ ap (λ z. u *ℤ z) h ∙ times_zero u,
)
  where
    times_zero : (u : ℤ) → u *ℤ pos 0 ≡ pos 0
    times_zero u = omega (arith, ints)

pub solves_divided : (row w : List ℤ) → (Solves w (divided row) ↔ Solves w row)
solves_divided row w =
    let (g, some, is) = divided_times row in
    let both = solves_scaled (pos g) (divided row) w (λ e. omega arith) in (
      λ h. subst (Solves w) is (both.1 h),
      λ h. both.0 (subst (Solves w) (sym is) h),
    )

pub solves_negated : (row w : List ℤ) → (Solves w (map neg_ℤ row) ↔ Solves w row)
solves_negated row w = let e = sum_negated row w in
    (λ h. omega (arith, ints), λ h. omega (arith, ints))

pub solves_kept_entries : (row w : List ℤ) (c : ℕ) → (Solves w (kept_entries row c) ↔ Solves w row)
unfolding kept_entries
solves_kept_entries row w c = by_sign (int_lt (at_column row c) (pos 0))
  where
    by_sign : (b : Bool) →
        (Solves w (if b then map neg_ℤ (divided row) else divided row) ↔ Solves w row)
    by_sign true =
        let turned = solves_negated (divided row) w in
        let both = solves_divided row w in (λ h. both.0 (turned.0 h), λ h. turned.1 (both.1 h))
    by_sign false = solves_divided row w
