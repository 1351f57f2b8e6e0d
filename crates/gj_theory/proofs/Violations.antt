-- The first violation is shown at its points, and a shown violation denies minimality.
use Rattle.std.proofs.Common.{◌≡◌, ◌≢◌, ℕ, inl, inr, ◌+◌, ◌-◌, ◌*◌, ◌/◌, ◌%◌, ◌<◌, ◌≤◌, unsigned_abs, lit<, ℤ, pos, ◌+ℤ◌, ◌*ℤ◌, ◌<ℤ◌, ◌≤ℤ◌, ◌∷◌, ap, ap₂, sym, subst, ◌∙◌, arith}
use Rattle.std.specs.List.{All}
use Rattle.std.proofs.Math.Nat.{mul-pos, mul_comm, le-mul_of_pos_right, add-mul-mod_self_right}
use Rattle.std.proofs.lemmas.Int.{ints, unsigned_abs-mul}
use Rattle.gj_lemmas.proofs.Integers.{mul_add_z, mul_cancel_left_z}
use Rattle.gj_lemmas.proofs.Quotients.{from_same_remainder, periods}
use Rattle.std.proofs.lemmas.List.Elements.{All-head}
use Rattle.gj_frac.specs.declared.Frac.{Frac}
use Rattle.gj_shape.specs.FunctionData.{FunctionData, IsWithinBounds, at}
use Rattle.gj_shape.specs.Table.{table, IsMinimalOnGrid, IsMinimal}
use Rattle.gj_shape.specs.FirstViolation.{Test, Passes, Shows, IsOnGrid, MidpointsAgree, IsFirstViolation, tests_of, near, first_coordinates, second_coordinates}
use Rattle.gj_shape.specs.FirstViolation.Test.{zero_at_zero, nonnegative_at, nonnegative_after, nonnegative_before, symmetric_at, symmetric_between, subadditive_at}
use Rattle.gj_shape.specs.Violation.{IsPoint, IsNegativeAt, IsAsymmetricAt, IsSuperadditiveAt, value_of, ShowsViolation}
use Rattle.gj_shape.specs.declared.violations.Violation.{Violation}
use Rattle.gj_shape.specs.declared.violations.Violation.TheVariants as violation
use Rattle.gj_shape.proofs.TableLemmas.{table_of_order, table_period}
use Rattle.gj_theory.specs.EarlierTests.{IsTestOf}
use Rattle.gj_theory.specs.GridPoints.{IsMultiple, HoldsPoints}
use Rattle.gj_theory.proofs.Affine.{table_inside, some_corners}
use Rattle.gj_lemmas.proofs.Lists.{All-back}
use Rattle.gj_lemmas.proofs.FirstThatFails.{first_failing_fails}
use Rattle.gj_theory.proofs.EachTest.{each_test}
use Rattle.gj_theory.proofs.ShownPoints.{value_at_place, same_on_both, below_scaled, pair_at_places, scales_swapped, shows_zero, shows_negative, shows_asymmetric, shows_superadditive}

-- ---- what the test that fails shows

-- the test that gives the first violation is one of the function's
test_is_of : (f : FunctionData) (v : Violation) → (h : IsFirstViolation f v) → IsTestOf f h.test
test_is_of f v h =
    let all = subst (All (IsTestOf f)) h.first.place (each_test f (IsTestOf f) (λ t i. i)) in
    All-head (IsTestOf f) h.test h.first.after
    (All-back (IsTestOf f) h.before (h.test ∷ h.first.after) all)

-- a number that is not at least 0 is less
not_nonnegative : (x : ℤ) → (pos 0 ≤ℤ x → ⊥) → x <ℤ pos 0
not_nonnegative x h = grind (arith, ints)

-- the values at (i + 1/4)/order and at f less that do not add up, if those at (i + 1/2)/order and
-- at f less do
quarters_differ : (s : ℕ) (x x' y y' : ℤ) →
    (pos 1 *ℤ x +ℤ pos 1 *ℤ x') +ℤ (pos 1 *ℤ y +ℤ pos 1 *ℤ y') ≡ pos (s * 2) →
    ((x +ℤ y' ≡ pos s) × (x' +ℤ y ≡ pos s) → ⊥) →
    (pos 3 *ℤ x +ℤ pos 1 *ℤ x') +ℤ (pos 1 *ℤ y +ℤ pos 3 *ℤ y') ≢ pos (s * 4)
quarters_differ s x x' y y' e differs g = differs (omega (arith, ints), omega (arith, ints))

pub shows_symmetric_at : (f : FunctionData) (i : ℕ) (x : Frac) → 0 < f.order → i < f.order →
    IsOnGrid f 1 i x →
    (Passes f (symmetric_at i) → ⊥) → ShowsViolation f (violation.Asymmetric x)
shows_symmetric_at f i x some below is fails =
    let j = f.place + (f.order - i) in
    shows_asymmetric f 1 i j x some (omega arith) is (omega arith)
    (λ e. fails (ap₂ (λ v w. v +ℤ w) (sym (table_of_order f i)) (sym (table_of_order f j)) ∙ e
    ∙ ap pos (omega arith)))

pub shows_midpoint : (f : FunctionData) (i : ℕ) (x : Frac) → 0 < f.order → i < f.order →
    IsOnGrid f 2 (2 * i + 1) x →
    (MidpointsAgree f i → ⊥) → ShowsViolation f (violation.Asymmetric x)
shows_midpoint f i x some below is differs =
    shows_asymmetric f 2 (2 * i + 1) (2 * (f.place + (f.order - i)) - 1) x some (omega arith) is
    (omega arith) differs

-- the sum of two values inside intervals, on a grid of m = u + r
pair_inside : (f : FunctionData) (m a b i j u r : ℕ) → u + r ≡ m → 0 < u → 0 < r → i ≡ a * m + r →
    j ≡ b * m + u →
    table f m i +ℤ table f m j
    ≡ (pos u *ℤ at f.right a +ℤ pos r *ℤ at f.left (a + 1))
    +ℤ (pos r *ℤ at f.right b +ℤ pos u *ℤ at f.left (b + 1))
pair_inside f m a b i j u r whole u_some r_some e g =
    ap₂ (λ v w. v +ℤ w) (table_inside f m i a u r e whole u_some r_some)
    (table_inside f m j b r u g (omega arith) r_some u_some)

pub shows_quarter : (f : FunctionData) (i : ℕ) (x : Frac) → 0 < f.order → i < f.order →
    IsOnGrid f 4 (4 * i + 1) x →
    MidpointsAgree f i → (Passes f (symmetric_between i) → ⊥) →
    ShowsViolation f (violation.Asymmetric x)
shows_quarter f i x some below is agree fails =
    let b = f.place + (f.order - (i + 1)) in
    let next : f.place + (f.order - i) ≡ b + 1 = omega arith in
    let middle =
    pair_inside f 2 i b (2 * i + 1) (2 * (f.place + (f.order - i)) - 1) 1 1
    (omega arith) (omega arith) (omega arith) (omega arith) (omega arith) in
    let quarter =
    pair_inside f 4 i b (4 * i + 1) (4 * b + 3) 3 1
    (omega arith) (omega arith) (omega arith) (omega arith) (omega arith) in
    let differs =
    quarters_differ f.scale (at f.right i) (at f.left (i + 1)) (at f.right b) (at f.left (b + 1))
    (sym middle ∙ agree)
    (λ both. fails (ap (λ k. at f.right i +ℤ at f.left k) next ∙ both.0, both.1)) in
    shows_asymmetric f 4 (4 * i + 1) (4 * b + 3) x some (omega arith) is (omega arith)
    (λ e. differs (sym quarter ∙ e))

shown_by : (f : FunctionData) (t : Test) (v : Violation) → 0 < f.order → IsTestOf f t →
    (Passes f t → ⊥) →
    Shows f t v → ShowsViolation f v
shown_by f zero_at_zero v some i fails e = subst (ShowsViolation f) (sym e) (shows_zero f fails)
shown_by f (nonnegative_at k) v some i fails (x, is, e) =
    subst (ShowsViolation f) (sym e)
    (shows_negative f 1 k x some (omega arith) is
    (rw (table_of_order f k) (not_nonnegative (at f.value k) fails)))
shown_by f (nonnegative_after k) v some i fails (h, x, least, is, e) =
    subst (ShowsViolation f) (sym e)
    (shows_negative f h (k * h + 1) x some (omega (arith, least.from)) is least.holds)
shown_by f (nonnegative_before k) v some i fails (h, x, least, is, e) =
    subst (ShowsViolation f) (sym e)
    (shows_negative f h (k * h + h - 1) x some (omega (arith, least.from)) is least.holds)
shown_by f (symmetric_at k) v some i fails (x, is, e) =
    subst (ShowsViolation f) (sym e) (shows_symmetric_at f k x some i is fails)
shown_by f (symmetric_between k) v some i fails (x, e, inl (differ, is)) =
    subst (ShowsViolation f) (sym e) (shows_midpoint f k x some i is differ)
shown_by f (symmetric_between k) v some i fails (x, e, inr (agree, is)) =
    subst (ShowsViolation f) (sym e) (shows_quarter f k x some i is agree fails)
shown_by f (subadditive_at kind a b c) v some i fails s =
    let h_some : 0 < s.h = omega (arith, (some_corners kind a b).0, s.least.from) in
    subst (ShowsViolation f) (sym s.shown)
    (shows_superadditive f s.h (near s.h c (first_coordinates kind a b))
    (near s.h c (second_coordinates kind a b))
    s.x s.y some h_some s.first s.second s.least.holds)

-- the first violation is shown at its points
pub first_shown : (f : FunctionData) (v : Violation) → IsWithinBounds f → IsFirstViolation f v →
    ShowsViolation f v
first_shown f v l h =
    let fails = first_failing_fails (Passes f) (tests_of f) h.before h.test h.first in
    shown_by f h.test v (omega arith) (test_is_of f v h) fails h.shows

-- ---- a violation denies minimality

-- the index on the grid of a point n/d that the grid holds
index_on : (f : FunctionData) (m : ℕ) (x : Frac) (n d : ℕ) → IsPoint x n d → IsMultiple f m x →
    (i : ℕ) × (n * (f.order * m) ≡ i * d)
index_on f m x n d point (i, is) =
    let whole : pos n *ℤ pos (f.order * m) ≡ i *ℤ pos d =
    ap (λ z. z *ℤ pos (f.order * m)) (sym point.numerator_is) ∙ is
    ∙ ap (λ z. i *ℤ z) point.denominator_is in
    (unsigned_abs i, ap unsigned_abs whole ∙ unsigned_abs-mul i (pos d))

-- the function's value at 0 is that of each table
zero_denies : (f : FunctionData) (m : ℕ) → 0 < m → value_of f 0 1 ≢ pos 0 → table f m 0 ≡ pos 0 → ⊥
zero_denies f m some differs e =
    let value = value_at_place f m 0 0 1 some (lit< tt) (omega arith) in
    differs (mul_cancel_left_z (value_of f 0 1) (pos 0) (pos m) (omega (arith, ints)) (omega arith))

negative_denies : (f : FunctionData) (m : ℕ) (x : Frac) (n d : ℕ) → 0 < m → IsNegativeAt f x n d →
    IsMultiple f m x →
    ((i : ℕ) → pos 0 ≤ℤ table f m i) → ⊥
negative_denies f m x n d some s held nonnegative =
    let (i, place) = index_on f m x n d s.point held in
    let value = value_at_place f m i n d some s.point.positive place in
    let less = below_scaled d m (value_of f n d) (pos 0) (table f m i) (pos 0) s.point.positive some
    (sym value)
    (omega (arith, ints)) s.below in
    let least = nonnegative i in
    omega (arith, ints)

superadditive_denies : (f : FunctionData) (h : ℕ) (x y : Frac) (n d m e : ℕ) → 0 < h →
    IsSuperadditiveAt f x y n d m e →
    IsMultiple f h x → IsMultiple f h y →
    ((i j : ℕ) → table f h (i + j) ≤ℤ (table f h i +ℤ table f h j)) → ⊥
superadditive_denies f h x y n d m e some s x_held y_held subadditive =
    let (i, x_place) = index_on f h x n d s.first x_held in
    let (j, y_place) = index_on f h y m e s.second y_held in
    let places = pair_at_places f h i j n d m e some s.first.positive s.second.positive x_place
    y_place in
    let bottom = mul-pos s.first.positive s.second.positive in
    let less = below_scaled (d * e) h (value_of f (n * e) (d * e) +ℤ value_of f (m * d) (d * e))
    (value_of f (n * e + m * d) (d * e))
    (table f h i +ℤ table f h j) (table f h (i + j)) bottom some (sym places.0)
    (sym places.1) s.below in
    let most = subadditive i j in
    omega (arith, ints)

-- the places opposite to n/d = i/(order m) on the two grids are one, up to periods
opposite_places : (n d i j o q k m x y : ℕ) → n * (q * m) ≡ i * d →
    n * q + j + x * (q * d) ≡ k * d + y * (q * d) →
    i + o ≡ k * m + i * (q * m) → j * m + (x + i) * (q * (m * d)) ≡ o * d + y * (q * (m * d))
opposite_places n d i j o q k m x y place opposite whole =
    let first = ap (λ t. t * m) opposite in
    let second = ap (λ t. t * d) whole in
    omega arith

asymmetric_denies : (f : FunctionData) (m : ℕ) (x : Frac) (n d j : ℕ) → IsWithinBounds f → 0 < m →
    IsAsymmetricAt f x n d j → IsMultiple f m x → IsMinimalOnGrid f m → ⊥
asymmetric_denies f m x n d j l some s held minimal =
    let (i, place) = index_on f m x n d s.point held in
    let many : i ≤ i * (f.order * m) = le-mul_of_pos_right i (mul-pos (omega arith) some) in
    let o = f.place * m + (i * (f.order * m) - i) in
    let whole : i + o ≡ f.place * m + i * (f.order * m) = omega arith in
    let turned = ap (λ k. k % (f.order * m)) whole
    ∙ add-mul-mod_self_right (f.place * m) i (f.order * m) in
    let x = f.place * d / (f.order * d) in
    let y = (n * f.order + j) / (f.order * d) in
    let opposite = from_same_remainder (n * f.order + j) (f.place * d) (f.order * d) s.opposite in
    let places = opposite_places n d i j o f.order f.place m x y place opposite whole in
    let entry = table f (m * d) in
    let step = λ (k : ℕ). table_period f (m * d) k (mul-pos some s.point.positive) l in
    let same = sym (periods entry (f.order * (m * d)) step (j * m) (x + i)) ∙ ap entry places
    ∙ periods entry (f.order * (m * d)) step (o * d) y in
    let first = value_at_place f m i n d some s.point.positive place in
    let second = same_on_both f m d o j some s.point.positive same in
    let both = mul_add_z (pos m) (value_of f n d) (table f d j) ∙ ap₂ (λ v w. v +ℤ w) first second
    ∙ sym (mul_add_z (pos d) (table f m i) (table f m o))
    ∙ ap (λ z. pos d *ℤ z) (minimal.symmetric i o turned)
    ∙ scales_swapped d m f.scale in
    s.differs (mul_cancel_left_z (value_of f n d +ℤ table f d j) (pos (f.scale * d)) (pos m) both
    (omega arith))

-- if a violation is shown, the table on no grid that holds its points is minimal
pub violation_denies_tables : (f : FunctionData) (v : Violation) (m : ℕ) → IsWithinBounds f →
    ShowsViolation f v → 0 < m →
    HoldsPoints f m v → IsMinimalOnGrid f m → ⊥
violation_denies_tables f violation.Zero m l s some held h = zero_denies f m some s h.zero_at_zero
violation_denies_tables f (violation.Negative x) m l (n, d, s) some held h =
    negative_denies f m x n d some s held h.nonnegative
violation_denies_tables f (violation.Asymmetric x) m l (n, d, j, s) some held h =
    asymmetric_denies f m x n d j l some s held h
violation_denies_tables f (violation.Superadditive x y) h l (n, d, m, e, s) some held minimal =
    superadditive_denies f h x y n d m e some s held.0 held.1 minimal.subadditive

-- a point n/d is on the grid of order d times c
multiple_on : (f : FunctionData) (x : Frac) (n d c : ℕ) → IsPoint x n d → IsMultiple f (d * c) x
multiple_on f x n d c point =
    let top = pos (n * c * f.order) in
    let swapped : n * (f.order * (d * c)) ≡ n * c * f.order * d = omega arith in (
      top,
      ap (λ z. z *ℤ pos (f.order * (d * c))) point.numerator_is ∙ ap pos swapped
          ∙ ap (λ z. top *ℤ z) (sym point.denominator_is),
    )

-- some grid holds the points of a violation that is shown
pub some_grid : (f : FunctionData) (v : Violation) → ShowsViolation f v →
    (m : ℕ) × (0 < m) × HoldsPoints f m v
some_grid f violation.Zero s = (1, lit< tt, tt)
some_grid f (violation.Negative x) (n, d, s) =
    (d * 1, omega (arith, s.point.positive), multiple_on f x n d 1 s.point)
some_grid f (violation.Asymmetric x) (n, d, j, s) =
    (d * 1, omega (arith, s.point.positive), multiple_on f x n d 1 s.point)
some_grid f (violation.Superadditive x y) (n, d, m, e, s) = (
  d * e,
  mul-pos s.first.positive s.second.positive,
  (
    multiple_on f x n d e s.first,
    subst (λ k. IsMultiple f k y) (mul_comm e d)
        (multiple_on f y m e d s.second),
  ),
)

-- a function with a shown violation is not minimal
pub violation_denies : (f : FunctionData) (v : Violation) → IsWithinBounds f → ShowsViolation f v →
    IsMinimal f → ⊥
violation_denies f v l s minimal =
    let (m, some, held) = some_grid f v s in
    violation_denies_tables f v m l s some held (minimal m some)
