-- A valid table at the places of a row's entries: the cut from it.
use Rattle.std.proofs.Common.{◌≡◌, ℕ, ◌*◌, ◌<◌, List, [], ◌∷◌, length, map, ℤ, pos, ◌+ℤ◌, ◌-ℤ◌, ◌*ℤ◌, unsigned_abs, refl, sym, ap, ◌∙◌, arith}
use Rattle.std.specs.List.{AllZip}
use Rattle.std.specs.Int.{int_div_euclid}
use Rattle.std.proofs.lemmas.List.Elements.{All-nil, All-cons, All-head, All-tail}
use Rattle.std.proofs.lemmas.Nat.Gcd.{dvd_trans}
use Rattle.std.proofs.Math.Nat.{dvd-mul_left, dvd-mul_right, mul-pos}
use Rattle.gj_frac.specs.declared.Frac.{Frac}
use Rattle.gj_frac.specs.Floor.{IsFloor, HasFractionalPart}
use Rattle.gj_frac.specs.Fraction.{IsRatio, numerator, denominator}
use Rattle.gj_frac.proofs.Floors.{quotient_is_floor}
use Rattle.gj_lemmas.proofs.Integers.{positive_some_z, swap_last_z}
use Rattle.gj_lemmas.proofs.Ratios.{ratio_along}
use Rattle.gj_lemmas.proofs.Ring.{by_ring, ring}
use Rattle.gj_shape.specs.Given.{IsCommonDenominator, numerator_over}
use Rattle.gj_shape.specs.RowCut.{CutHolds}
use Rattle.gj_shape.specs.SlopeRows.{sum_of_products}
use Rattle.gj_shape.specs.Table.{IsMinimalTable}
use Rattle.gj_shape.specs.Valid.{IsValidTable}
use Rattle.gj_shape.proofs.LeastDenominator.{Divides, denominator_some, least_common_some}
use Rattle.gj_shape.proofs.OverScale.{all_over}
use Rattle.gj_theory.specs.Cuts.{IsEntryAt}
use Rattle.gj_theory.proofs.ValidTables.{minimal_is_valid}
use Rattle.gj_theory.proofs.UsedPlaces.{UsedPlaces, none_used, with_uses, weigh_one}

-- ---- common denominators

-- the product of the denominators
pub product_of : List Frac → ℕ
product_of [] = 1
product_of (x ∷ xs) = unsigned_abs (denominator x) * product_of xs

-- is not 0
pub product_some : (xs : List Frac) → 0 < product_of xs
unfolding product_of
product_some [] = omega arith
product_some (x ∷ xs) = mul-pos (denominator_some x) (product_some xs)

-- and is a common denominator
pub product_common : (xs : List Frac) → IsCommonDenominator xs (product_of xs)
unfolding product_of
product_common [] = All-nil (Divides 1)
product_common (x ∷ xs) =
    let d = unsigned_abs (denominator x) in
    All-cons (Divides (d * product_of xs)) x xs (dvd-mul_right d (product_of xs))
    (λ k y l. dvd_trans _ (product_common xs k y l) (dvd-mul_left (product_of xs) d))

-- ---- one entry over two denominators

-- a fraction that is a/n has over each of its denominators c the numerator a c/n
pub numerator_at : (x : Frac) (c : ℕ) (a n : ℤ) → Divides c x → IsRatio x a n →
    numerator_over c x *ℤ n ≡ a *ℤ pos c
numerator_at x c a n h is =
    let whole = all_over c (x ∷ []) (All-cons (Divides c) x [] h (All-nil (Divides c))) in
    ratio_along (numerator_over c x) (pos c) (numerator x) (denominator x) a n
    (positive_some_z (denominator x) x.lowest.positive) (sym whole.0) is

-- ---- a table at the places of the entries

entry_used : (a u n p c : ℤ) → a *ℤ n ≡ p *ℤ c → (a *ℤ u) *ℤ n ≡ (p *ℤ u) *ℤ c
entry_used a u n p c e = swap_last_z a u n ∙ ap (λ z. z *ℤ u) e ∙ swap_last_z p c u

-- the places of the entries of a row, each used as often as its variable says
pub sums : (t : ℕ → ℤ) (n s c g : ℕ) (xs ys : List Frac) (us : List ℕ) →
    length us ≡ length xs → AllZip (IsEntryAt t n s) xs ys → IsCommonDenominator xs c →
    IsCommonDenominator ys g →
    UsedPlaces t n s c g (sum_of_products (map (numerator_over c) xs) (map pos us))
    (sum_of_products (map (numerator_over g) ys) (map pos us))
sums t n s c g [] [] [] count h xs_over ys_over = none_used t n s c g
sums t n s c g [] [] (u ∷ us) count h xs_over ys_over = (cc)
sums t n s c g [] (y ∷ ys) us count h xs_over ys_over = absurd h
sums t n s c g (x ∷ xs) [] us count h xs_over ys_over = absurd h
sums t n s c g (x ∷ xs) (y ∷ ys) [] count h xs_over ys_over = (cc)
sums t n s c g (x ∷ xs) (y ∷ ys) (u ∷ us) count h xs_over ys_over =
    let at = h.0 in
    with_uses t n s c g at.index u at.place (numerator_over c x *ℤ pos u)
    (numerator_over g y *ℤ pos u) _ _ at.index_is
    (entry_used (numerator_over c x) (pos u) (pos n) at.place (pos c)
    (numerator_at x c at.place (pos n) (All-head (Divides c) x xs xs_over) at.place_is))
    (entry_used (numerator_over g y) (pos u) (pos s) (t at.index) (pos g)
    (numerator_at y g (t at.index) (pos s) (All-head (Divides g) y ys ys_over) at.entry_is))
    (sums t n s c g xs ys us (omega arith) h.1 (All-tail (Divides c) x xs xs_over)
    (All-tail (Divides g) y ys ys_over))

-- ---- the place of the right side

right_split : (w k n d : ℤ) → (w *ℤ n +ℤ k) *ℤ d ≡ w *ℤ d *ℤ n +ℤ k *ℤ d
right_split w k n d = by_ring (w ∷ k ∷ n ∷ d ∷ []) (search ring depth 30) refl

right_joined : (m w n d : ℤ) → m *ℤ n ≡ w *ℤ d *ℤ n +ℤ (m -ℤ w *ℤ d) *ℤ n
right_joined m w n d = by_ring (m ∷ w ∷ n ∷ d ∷ []) (search ring depth 30) refl

-- a fraction with the fractional part k/n is k/n and a whole number w
pub whole_and_part : (x : Frac) (k n w : ℤ) → IsFloor x w → HasFractionalPart x k n →
    IsRatio x (w *ℤ n +ℤ k) n
whole_and_part x k n w floor h =
    right_joined x.num w n x.den ∙ ap (λ z. w *ℤ x.den *ℤ n +ℤ z) (h w floor)
    ∙ sym (right_split w k n x.den)

-- ---- the cut

pub cut_by_valid : (t : ℕ → ℤ) (n k s : ℕ) (entries : List Frac) (right : Frac)
    (coefficients : List Frac) →
    IsValidTable t n k s → 0 < n → 0 < s → HasFractionalPart right (pos k) (pos n) →
    AllZip (IsEntryAt t n s) entries coefficients → CutHolds entries right coefficients
cut_by_valid t n k s entries right coefficients valid n_some s_some part h basic others g solution
    least =
    let c = solution.c in
    let right_over = All-head (Divides c) right entries solution.least.common in
    let entries_over = All-tail (Divides c) right entries solution.least.common in
    let w = int_div_euclid right.num right.den in
    let right_is = whole_and_part right (pos k) (pos n) w (quotient_is_floor right) part in
    let whole = ap (λ z. z *ℤ pos n) solution.solves
    ∙ numerator_at right c (w *ℤ pos n +ℤ pos k) (pos n) right_over right_is in
    weigh_one t n k s c g _ _ basic w valid s_some
    (least_common_some (right ∷ entries) c solution.least) whole
    (sums t n s c g entries coefficients others solution.count h entries_over least.common)

pub cut_by_table : (t : ℕ → ℤ) (n k s : ℕ) (entries : List Frac) (right : Frac)
    (coefficients : List Frac) →
    IsMinimalTable t n k s → 0 < n → 0 < s → HasFractionalPart right (pos k) (pos n) →
    AllZip (IsEntryAt t n s) entries coefficients → CutHolds entries right coefficients
cut_by_table t n k s entries right coefficients minimal =
    cut_by_valid t n k s entries right coefficients (minimal_is_valid t n k s minimal)
