-- A minimal function passes all tests.
use Rattle.std.proofs.Common.{◌≡◌, ℕ, ◌+◌, ◌-◌, ◌*◌, ◌%◌, ◌<◌, ◌≤◌, ℤ, pos, ◌+ℤ◌, ◌*ℤ◌, ◌≤ℤ◌, [], ◌∷◌, length, get_or, refl, ap, ap₂, sym, subst, ◌∙◌, arith}
use Rattle.std.proofs.Math.Nat.{add-mod_right}
use Rattle.std.proofs.lemmas.Int.{ints}
use Rattle.gj_lemmas.proofs.Integers.{le_from_multiples_z}
use Rattle.gj_shape.specs.FunctionData.{FunctionData, at}
use Rattle.gj_shape.specs.Faces.{corners_of, limits_of}
use Rattle.gj_shape.specs.Table.{table, IsMinimal}
use Rattle.gj_shape.specs.FirstViolation.{Test, Passes, PassesAll, near, first_coordinates, second_coordinates}
use Rattle.gj_shape.specs.FirstViolation.Test.{zero_at_zero, nonnegative_at, nonnegative_after, nonnegative_before, symmetric_at, symmetric_between, subadditive_at}
use Rattle.gj_shape.specs.declared.faces.FaceKind.{FaceKind}
use Rattle.gj_shape.proofs.TableLemmas.{table_of_order}
use Rattle.gj_theory.specs.EarlierTests.{IsTestOf}
use Rattle.gj_shape.specs.SlopeRows.{total}
use Rattle.gj_theory.specs.NearCorners.{near_value}
use Rattle.gj_theory.proofs.Affine.{limit_count, table_inside, near_after, near_before, near_corner}
use Rattle.gj_theory.proofs.EachTest.{each_test}

-- indices that add up to f, one turn on, are opposite on the grid
pub opposite_on_grid : (k q m i j : ℕ) → i + j ≡ (k + q) * m → (i + j) % (q * m) ≡ (k * m) % (q * m)
opposite_on_grid k q m i j e =
    let turned : i + j ≡ k * m + q * m = omega arith in
    ap (λ n. n % (q * m)) turned ∙ add-mod_right (k * m) (q * m)

-- ---- signs and slacks

-- a number that is not negative in large multiples, up to a fixed difference, is not negative
limit_from_near : (n : ℕ) (x d : ℤ) → ((h : ℕ) → n ≤ h → 0 < h → pos 0 ≤ℤ (pos (h - n) *ℤ x +ℤ d)) →
    pos 0 ≤ℤ x
limit_from_near n x d h =
    le_from_multiples_z (pos 0) x d (λ k some.
    let back : k + n - n ≡ k = omega arith in
    let near_it : pos 0 ≤ℤ (pos k *ℤ x +ℤ d) =
    subst (λ m. pos 0 ≤ℤ (pos m *ℤ x +ℤ d)) back (h (k + n) (omega arith) (omega arith)) in
    omega (arith, ints))

pub right_limit : (f : FunctionData) → IsMinimal f → (i : ℕ) → pos 0 ≤ℤ at f.right i
right_limit f h i =
    limit_from_near 2 (at f.right i) (total (at f.right i ∷ at f.left (i + 1) ∷ [])) (λ n low some.
    subst (λ z. pos 0 ≤ℤ z) (near_after f i n low) ((h n some).nonnegative (i * n + 1)))

pub left_limit : (f : FunctionData) → IsMinimal f → (i : ℕ) → pos 0 ≤ℤ at f.left (i + 1)
left_limit f h i =
    limit_from_near 2 (at f.left (i + 1)) (total (at f.right i ∷ at f.left (i + 1) ∷ []))
    (λ n low some.
    subst (λ z. pos 0 ≤ℤ z) (near_before f i n low) ((h n some).nonnegative (i * n + n - 1)))

-- what a sum exceeds another by if it is not less
excess : (s w : ℤ) {x : ℤ} → x ≡ s +ℤ w → s ≤ℤ x → pos 0 ≤ℤ w
excess s w e h = omega (arith, ints)

pub slack_limit : (f : FunctionData) → IsMinimal f →
    (kind : FaceKind) (a b c : ℕ) →
    c < length (corners_of kind a b) → pos 0 ≤ℤ get_or (limits_of f kind a b) c (pos 0)
slack_limit f h kind a b c below =
    limit_from_near (length (limits_of f kind a b)) (get_or (limits_of f kind a b) c (pos 0))
    (total (limits_of f kind a b)) (λ n low some.
    let x = near n c (first_coordinates kind a b) in
    let y = near n c (second_coordinates kind a b) in
    excess (table f n (x + y)) (near_value n c (limits_of f kind a b))
    (near_corner f kind a b c n below (omega (arith, limit_count f kind a b, low)))
    ((h n some).subadditive x y))

-- ---- symmetry

-- the values at opposite places inside intervals, on a grid
pub between_on_grid : (f : FunctionData) → IsMinimal f → (i j u r : ℕ) → 0 < u → 0 < r →
    i + j + 1 ≡ f.place + f.order →
    (pos u *ℤ at f.right i +ℤ pos r *ℤ at f.left (i + 1))
    +ℤ (pos r *ℤ at f.right j +ℤ pos u *ℤ at f.left (j + 1))
    ≡ pos (f.scale * (u + r))
between_on_grid f h i j u r u_some r_some e =
    let m = u + r in
    let first = table_inside f m (i * m + r) i u r refl refl u_some r_some in
    let second = table_inside f m (j * m + u) j r u refl (omega arith) r_some u_some in
    let whole : i * m + r + (j * m + u) ≡ (f.place + f.order) * m =
    omega (arith, ap (λ n. n * m) e) in
    ap₂ (λ x y. x +ℤ y) (sym first) (sym second)
    ∙ (h m (omega arith)).symmetric (i * m + r) (j * m + u)
    (opposite_on_grid f.place f.order m _ _ whole)

-- two sums from their sum and from twice the one and the other
two_sums : (s : ℕ) (x x' y y' : ℤ) → (pos 1 *ℤ x +ℤ pos 1 *ℤ x') +ℤ (pos 1 *ℤ y +ℤ pos 1 *ℤ y')
    ≡ pos (s * (1 + 1)) →
    (pos 2 *ℤ x +ℤ pos 1 *ℤ x') +ℤ (pos 1 *ℤ y +ℤ pos 2 *ℤ y') ≡ pos (s * (2 + 1)) →
    (x +ℤ y' ≡ pos s) × (x' +ℤ y ≡ pos s)
two_sums s x x' y y' e g = (omega (arith, ints), omega (arith, ints))

symmetric_limits : (f : FunctionData) → IsMinimal f → (i : ℕ) → i < f.order →
    Passes f (symmetric_between i)
symmetric_limits f h i below =
    let j = f.place + (f.order - (i + 1)) in
    let next : j + 1 ≡ f.place + (f.order - i) = omega arith in
    let sums = two_sums f.scale (at f.right i) (at f.left (i + 1)) (at f.right j)
    (at f.left (j + 1))
    (between_on_grid f h i j 1 1 (omega arith) (omega arith) (omega arith))
    (between_on_grid f h i j 2 1 (omega arith) (omega arith) (omega arith)) in
    (ap (λ k. at f.right i +ℤ at f.left k) (sym next) ∙ sums.0, sums.1)

symmetric_values : (f : FunctionData) → IsMinimal f → (i : ℕ) → i < f.order →
    Passes f (symmetric_at i)
symmetric_values f h i below =
    let j = f.place + (f.order - i) in
    ap₂ (λ x y. x +ℤ y) (sym (table_of_order f i)) (sym (table_of_order f j))
    ∙ (h 1 (omega arith)).symmetric i j (opposite_on_grid f.place f.order 1 i j (omega arith))
    ∙ ap pos (omega arith)

-- ---- all tests

pub passes_each : (f : FunctionData) → IsMinimal f →
    (t : Test) → IsTestOf f t → Passes f t
passes_each f h zero_at_zero i = sym (table_of_order f 0) ∙ (h 1 (omega arith)).zero_at_zero
passes_each f h (nonnegative_at k) i =
    subst (λ z. pos 0 ≤ℤ z) (table_of_order f k) ((h 1 (omega arith)).nonnegative k)
passes_each f h (nonnegative_after k) i = right_limit f h k
passes_each f h (nonnegative_before k) i = left_limit f h k
passes_each f h (symmetric_at k) i = symmetric_values f h k i
passes_each f h (symmetric_between k) i = symmetric_limits f h k i
passes_each f h (subadditive_at kind a b c) i = slack_limit f h kind a b c i.2

pub tests_from_minimal : (f : FunctionData) → IsMinimal f → PassesAll f
tests_from_minimal f h = each_test f (Passes f) (passes_each f h)
