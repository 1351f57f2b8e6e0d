-- The tests say that the table on every grid is minimal.
use Rattle.std.proofs.Common.{◌≡◌, ℕ, zero, suc, inl, inr, ◌+◌, ◌-◌, ◌*◌, ◌/◌, ◌%◌, ◌<◌, ◌≤◌, ℤ, pos, ◌+ℤ◌, ◌*ℤ◌, ◌≤ℤ◌, List, [], ◌∷◌, length, get_or, refl, ap, ap₂, sym, subst, ◌∙◌, arith}
use Rattle.std.proofs.Math.Nat.{mod-lt, mod-mod, mul-mod_left, mul-div_left, div-add-mod', mod-add-mod, add-mod-mod}
use Rattle.std.proofs.lemmas.Bool.{cases_lt, cases_order}
use Rattle.std.proofs.lemmas.Int.{ints}
use Rattle.gj_lemmas.proofs.Integers.{mul_nonnegative_z}
use Rattle.gj_lemmas.proofs.Quotients.{same_at_remainder, parts_of_remainder, place_sum_low, place_sum_high}
use Rattle.gj_lemmas.proofs.Ring.{by_ring, ring}
use Rattle.gj_shape.specs.FunctionData.{FunctionData, IsWithinBounds, IsPiecewise, at}
use Rattle.gj_shape.specs.Faces.{limits_of}
use Rattle.gj_shape.specs.Table.{table, IsMinimalOnGrid, IsMinimal}
use Rattle.gj_shape.specs.FirstViolation.{Test, Passes, PassesAll}
use Rattle.gj_shape.specs.FirstViolation.Test.{zero_at_zero, nonnegative_at, nonnegative_after, nonnegative_before, symmetric_at, symmetric_between, subadditive_at}
use Rattle.gj_shape.specs.declared.faces.FaceKind.{FaceKind}
use Rattle.gj_shape.specs.declared.faces.FaceKind.TheVariants.{Vertex, Horizontal, Vertical, Diagonal, Lower, Upper}
use Rattle.gj_shape.proofs.AtLemmas.{at_wrapped}
use Rattle.gj_shape.proofs.TableLemmas.{period_of_table, pieces_of}
use Rattle.gj_theory.specs.EarlierTests.{IsTestOf}
use Rattle.gj_theory.proofs.Everywhere.{at_same, opposite_index, everywhere, symmetric_everywhere}
use Rattle.gj_theory.proofs.Affine.{limit_count, weighted, table_at_place, table_inside, slack_on_vertex, slack_on_horizontal, slack_on_vertical, slack_on_diagonal, slack_on_lower, slack_on_upper}
use Rattle.gj_theory.proofs.EachTest.{test_has}

-- each test of the function passes
abbrev pub PassesEach : FunctionData → Type 0
PassesEach f = (t : Test) → IsTestOf f t → Passes f t

-- a place of a grid lies at a multiple of 1/order or between two neighbours
pub data Place (m i a : ℕ) : Type 0 where
  at_multiple : i ≡ a * m → Place m i a
  inside : (r u : ℕ) → i ≡ a * m + r → u + r ≡ m → 0 < u → 0 < r → Place m i a

place_from : (m i a r : ℕ) → i ≡ a * m + r → r < m → Place m i a
place_from m i a zero e below = at_multiple (omega arith)
place_from m i a (suc r) e below = inside (suc r) (m - suc r) e (omega arith) (omega arith)
    (omega arith)

pub place_of : (m i : ℕ) → 0 < m → Place m i (i / m)
place_of m i some = place_from m i (i / m) (i % m) (sym (div-add-mod' i m)) (mod-lt i some)

-- ---- signs

nonnegative_sum : (u r : ℕ) (x y : ℤ) → pos 0 ≤ℤ x → pos 0 ≤ℤ y →
    pos 0 ≤ℤ (pos u *ℤ x +ℤ pos r *ℤ y)
nonnegative_sum u r x y p q =
    let first = mul_nonnegative_z (pos u) x (omega (arith, ints)) p in
    let second = mul_nonnegative_z (pos r) y (omega (arith, ints)) q in
    omega (arith, ints)

-- the limit from the left at every index but the first is that at an index below the order
left_nonnegative : (f : FunctionData) → IsPiecewise f → PassesEach f → (i : ℕ) →
    pos 0 ≤ℤ at f.left (i + 1)
left_nonnegative f l h i =
    let some : 0 < f.order = omega arith in
    let next : (i % f.order + 1) % f.order ≡ (i + 1) % f.order = mod-add-mod i f.order 1 in
    subst (λ z. pos 0 ≤ℤ z) (at_same f.left (i % f.order + 1) (i + 1) f.order l.left_length next)
    (h (nonnegative_before (i % f.order)) (mod-lt i some))

sign_at : (f : FunctionData) → IsPiecewise f → PassesEach f → (m i a : ℕ) → 0 < m → Place m i a →
    pos 0 ≤ℤ table f m i
sign_at f l h m i a some (at_multiple e) =
    let any : 0 < f.order = omega arith in
    let value =
    everywhere (λ z. pos 0 ≤ℤ z) f.value f.order l.value_length any
    (λ k below. h (nonnegative_at k) below) a in
    subst (λ z. pos 0 ≤ℤ z) (sym (table_at_place f m i a e some))
    (mul_nonnegative_z (pos m) (at f.value a) (omega (arith, ints)) value)
sign_at f l h m i a some (inside r u e whole u_some r_some) =
    let any : 0 < f.order = omega arith in
    let right =
    everywhere (λ z. pos 0 ≤ℤ z) f.right f.order l.right_length any
    (λ k below. h (nonnegative_after k) below) a in
    subst (λ z. pos 0 ≤ℤ z) (sym (table_inside f m i a u r e whole u_some r_some))
    (nonnegative_sum u r (at f.right a) (at f.left (a + 1)) right (left_nonnegative f l h a))

-- ---- symmetry

-- the limits at opposite places add up to 1: b + 1 is opposite to a
pub limits_symmetric : (f : FunctionData) → IsPiecewise f → PassesEach f → (a b : ℕ) →
    (a + (b + 1)) % f.order ≡ f.place % f.order → at f.right a +ℤ at f.left (b + 1) ≡ pos f.scale
limits_symmetric f l h a b e =
    let some : 0 < f.order = omega arith in
    let c = a % f.order in
    let first : at f.right a ≡ at f.right c =
    sym (at_wrapped f.right a c f.order l.right_length refl) in
    let second : at f.left (b + 1) ≡ at f.left (f.place + (f.order - c)) =
    at_same f.left (b + 1) (f.place + (f.order - c)) f.order l.left_length
    (opposite_index a (b + 1) f.place f.order some e) in
    ap₂ (λ x y. x +ℤ y) first second ∙ (h (symmetric_between c) (mod-lt a some)).0

pub values_symmetric : (f : FunctionData) → IsPiecewise f → PassesEach f → (a b : ℕ) →
    (a + b) % f.order ≡ f.place % f.order → at f.value a +ℤ at f.value b ≡ pos f.scale
values_symmetric f l h =
    symmetric_everywhere f.value f.order f.place f.scale l.value_length (omega arith)
    (λ i below. h (symmetric_at i) below)

scaled_sum : (m s : ℕ) (x y : ℤ) → x +ℤ y ≡ pos s → pos m *ℤ x +ℤ pos m *ℤ y ≡ pos (s * m)
scaled_sum m s x y e =
    by_ring (pos m ∷ x ∷ y ∷ []) (search ring depth 20) refl ∙ ap (λ z. pos m *ℤ z) e
    ∙ by_ring (pos m ∷ pos s ∷ []) (search ring depth 20) refl

weighted_sum : (u r m s : ℕ) (x x' y y' : ℤ) → u + r ≡ m → x +ℤ y' ≡ pos s → y +ℤ x' ≡ pos s →
    (pos u *ℤ x +ℤ pos r *ℤ x') +ℤ (pos r *ℤ y +ℤ pos u *ℤ y') ≡ pos (s * m)
weighted_sum u r m s x x' y y' whole e g =
    by_ring (pos u ∷ pos r ∷ x ∷ x' ∷ y ∷ y' ∷ []) (search ring depth 20) refl
    ∙ ap₂ (λ v w. pos u *ℤ v +ℤ pos r *ℤ w) e g
    ∙ by_ring (pos u ∷ pos r ∷ pos s ∷ []) (search ring depth 20) refl
    ∙ ap (λ n. pos (s * n)) whole

-- the quotients and the rests of opposite places
opposite_parts : (i j k q m : ℕ) → 0 < q → 0 < m → (i + j) % (q * m) ≡ (k * m) % (q * m) →
    ((i + j) / m % q ≡ k % q) × ((i + j) % m ≡ 0)
opposite_parts i j k q m q_some m_some e =
    let sum = parts_of_remainder (i + j) q m q_some m_some in
    let place = parts_of_remainder (k * m) q m q_some m_some in (
      sym sum.0 ∙ ap (λ n. n / m) e ∙ place.0 ∙ ap (λ n. n % q) (mul-div_left k m_some),
      sym sum.1 ∙ ap (λ n. n % m) e ∙ place.1 ∙ mul-mod_left k m,
    )

-- opposite places are both at multiples of 1/order or both between them
symmetric_low : (f : FunctionData) → IsPiecewise f → PassesEach f → (m i j : ℕ) → 0 < m →
    (i + j) / m % f.order ≡ f.place % f.order → (i + j) % m ≡ 0 → i % m + j % m < m →
    table f m i +ℤ table f m j ≡ pos (f.scale * m)
symmetric_low f l h m i j some e rest low =
    let parts = place_sum_low i j m low in
    let first : i ≡ i / m * m = omega (arith, div-add-mod' i m, parts.1) in
    let second : j ≡ j / m * m = omega (arith, div-add-mod' j m, parts.1) in
    ap₂ (λ x y. x +ℤ y) (table_at_place f m i (i / m) first some)
    (table_at_place f m j (j / m) second some)
    ∙ scaled_sum m f.scale _ _
    (values_symmetric f l h (i / m) (j / m) (ap (λ n. n % f.order) (sym parts.0) ∙ e))

symmetric_high : (f : FunctionData) → IsPiecewise f → PassesEach f → (m i j : ℕ) → 0 < m →
    (i + j) / m % f.order ≡ f.place % f.order → (i + j) % m ≡ 0 → m ≤ i % m + j % m →
    table f m i +ℤ table f m j ≡ pos (f.scale * m)
symmetric_high f l h m i j some e rest high =
    let parts = place_sum_high i j m some high in
    let i_small = mod-lt i some in
    let j_small = mod-lt j some in
    let a = i / m in
    let b = j / m in
    let r = i % m in
    let s = j % m in
    let whole : s + r ≡ m = omega (arith, parts.1) in
    let there : (a + (b + 1)) % f.order ≡ f.place % f.order =
    ap (λ n. n % f.order) (omega (arith, parts.0)) ∙ e in
    let back : (b + (a + 1)) % f.order ≡ f.place % f.order =
    ap (λ n. n % f.order) (omega (arith, parts.0)) ∙ e in
    ap₂ (λ x y. x +ℤ y)
    (table_inside f m i a s r (sym (div-add-mod' i m)) whole (omega arith) (omega arith))
    (table_inside f m j b r s (sym (div-add-mod' j m)) (omega arith) (omega arith) (omega arith))
    ∙ weighted_sum s r m f.scale (at f.right a) (at f.left (a + 1)) (at f.right b)
    (at f.left (b + 1)) whole
    (limits_symmetric f l h a b there) (limits_symmetric f l h b a back)

symmetric_places : (f : FunctionData) → IsPiecewise f → PassesEach f → (m i j : ℕ) → 0 < m →
    (i + j) % (f.order * m) ≡ (f.place * m) % (f.order * m) →
    table f m i +ℤ table f m j ≡ pos (f.scale * m)
symmetric_places f l h m i j some e =
    let parts = opposite_parts i j f.place f.order m (omega arith) some e in
    elim (cases_lt (i % m + j % m) m) [
      | inl low ↦ symmetric_low f l h m i j some parts.0 parts.1 low
      | inr high ↦ symmetric_high f l h m i j some parts.0 parts.1 high
    ]

-- ---- subadditivity

-- the sum of limits that are not negative, each with its weight
weighted_nonnegative : (weights : List ℕ) (xs : List ℤ) →
    ((k : ℕ) → k < length xs → pos 0 ≤ℤ get_or xs k (pos 0)) → pos 0 ≤ℤ weighted weights xs
weighted_nonnegative [] xs h = omega (arith, ints)
weighted_nonnegative (w ∷ ws) [] h = omega (arith, ints)
weighted_nonnegative (w ∷ ws) (x ∷ xs) h =
    let first = mul_nonnegative_z (pos w) x (omega (arith, ints)) (h 0 (omega arith)) in
    let rest = weighted_nonnegative ws xs (λ k below. h (suc k) (omega arith)) in
    omega (arith, ints)

-- on each face of a square
face_nonnegative : (f : FunctionData) → PassesEach f → (kind : FaceKind) (a b : ℕ) → a < f.order →
    b < f.order →
    (weights : List ℕ) → pos 0 ≤ℤ weighted weights (limits_of f kind a b)
face_nonnegative f h kind a b a_below b_below weights =
    weighted_nonnegative weights (limits_of f kind a b) (λ k below.
    h (subadditive_at kind a b k)
    (a_below, b_below, subst (λ n. k < n) (limit_count f kind a b) below))

-- a sum that exceeds another by what is not negative
at_most_from : (s w : ℤ) {x : ℤ} → x ≡ s +ℤ w → pos 0 ≤ℤ w → s ≤ℤ x
at_most_from s w e h = omega (arith, ints)

-- the three ways in which two numbers stand to each other
by_order : {P : Type 0} (a b : ℕ) → (a < b → P) → (a ≡ b → P) → (b < a → P) → P
by_order a b less equal more =
    elim (cases_order a b) [ inl e ↦ equal e | inr o ↦ elim o [ inl l ↦ less l | inr g ↦ more g ] ]

-- the slack at two places of one square
subadditive_inside : (f : FunctionData) → PassesEach f → (m i j a b r s : ℕ) → a < f.order →
    b < f.order →
    i ≡ a * m + r → j ≡ b * m + s → 0 < r → r < m → 0 < s → s < m →
    table f m (i + j) ≤ℤ (table f m i +ℤ table f m j)
subadditive_inside f h m i j a b r s a_below b_below e g r_some r_low s_some s_low =
    by_order (r + s) m
    (λ low.
    let w = m - (r + s) in
    at_most_from _ _ (slack_on_lower f m i j a b w r s e g (omega arith)
    (omega arith) r_some s_some)
    (face_nonnegative f h Lower a b a_below b_below (w ∷ r ∷ s ∷ [])))
    (λ whole.
    at_most_from _ _ (slack_on_diagonal f m i j a b r s e g whole r_some s_some)
    (face_nonnegative f h Diagonal a b a_below b_below (r ∷ s ∷ [])))
    (λ high.
    let u = m - s in
    let v = m - r in
    let w = r + s - m in
    at_most_from _ _
    (slack_on_upper f m i j a b u v w (omega arith) (omega arith) (omega arith)
    (omega arith) (omega arith) (omega arith))
    (face_nonnegative f h Upper a b a_below b_below (u ∷ v ∷ w ∷ [])))

subadditive_in_square : (f : FunctionData) → PassesEach f → (m i j a b : ℕ) → 0 < m → a < f.order →
    b < f.order →
    Place m i a → Place m j b → table f m (i + j) ≤ℤ (table f m i +ℤ table f m j)
subadditive_in_square f h m i j a b some a_below b_below (at_multiple e) (at_multiple g) =
    at_most_from _ _ (slack_on_vertex f m i j a b e g some)
    (face_nonnegative f h Vertex a b a_below b_below (m ∷ []))
subadditive_in_square f h m i j a b some a_below b_below (inside r u e whole u_some r_some)
    (at_multiple g) =
    at_most_from _ _ (slack_on_horizontal f m i j a b u r e g whole u_some r_some)
    (face_nonnegative f h Horizontal a b a_below b_below (u ∷ r ∷ []))
subadditive_in_square f h m i j a b some a_below b_below (at_multiple e)
    (inside s v g whole v_some s_some) =
    at_most_from _ _ (slack_on_vertical f m i j a b v s e g whole v_some s_some)
    (face_nonnegative f h Vertical a b a_below b_below (v ∷ s ∷ []))
subadditive_in_square f h m i j a b some a_below b_below (inside r u e whole u_some low)
    (inside s v g sum v_some more) =
    subadditive_inside f h m i j a b r s a_below b_below e g low (omega arith) more (omega arith)

-- what holds at places below the order of the grid holds at all
subadditive_from_below : (t : ℕ → ℤ) (n : ℕ) → ((i : ℕ) → t (i + n) ≡ t i) →
    ((i j : ℕ) → t (i % n + j % n) ≤ℤ (t (i % n) +ℤ t (j % n))) → (i j : ℕ) →
    t (i + j) ≤ℤ (t i +ℤ t j)
subadditive_from_below t n period h i j =
    let first : t (i % n) ≡ t i = same_at_remainder t n period (i % n) i (mod-mod i n) in
    let second : t (j % n) ≡ t j = same_at_remainder t n period (j % n) j (mod-mod j n) in
    let both : t (i % n + j % n) ≡ t (i + j) =
    same_at_remainder t n period (i % n + j % n) (i + j)
    (mod-add-mod i n (j % n) ∙ add-mod-mod i j n) in
    rw (← first, ← second, ← both) (h i j)

-- the quotient of a place below the order of the grid
square_of : (i q m : ℕ) → 0 < q → 0 < m → i % (q * m) / m < q
square_of i q m q_some m_some =
    let part = (parts_of_remainder i q m q_some m_some).0 in
    let below = mod-lt (i / m) q_some in
    omega arith

subadditive_places : (f : FunctionData) → IsPiecewise f → PassesEach f → (m : ℕ) → 0 < m →
    (i j : ℕ) → table f m (i + j) ≤ℤ (table f m i +ℤ table f m j)
subadditive_places f l h m some =
    let n = f.order * m in
    let any : 0 < f.order = omega arith in
    subadditive_from_below (table f m) n (λ i. period_of_table f m i some l) (λ i j.
    subadditive_in_square f h m (i % n) (j % n) (i % n / m) (j % n / m) some
    (square_of i f.order m any some)
    (square_of j f.order m any some) (place_of m (i % n) some) (place_of m (j % n) some))

minimal_on_grid : (f : FunctionData) → IsPiecewise f → PassesEach f → (m : ℕ) → 0 < m →
    IsMinimalOnGrid f m
minimal_on_grid f l h m some = record {
  has_period = λ i. period_of_table f m i some l;
  zero_at_zero =
      table_at_place f m 0 0 (omega arith) some ∙ ap (λ z. pos m *ℤ z) (h zero_at_zero tt)
      ∙ omega (arith, ints);
  nonnegative = λ i. sign_at f l h m i (i / m) some (place_of m i some);
  subadditive = subadditive_places f l h m some;
  symmetric = λ i j opposite. symmetric_places f l h m i j some opposite;
}

-- if all tests pass the table on every grid is minimal
pub minimal_by_tests : (f : FunctionData) → IsPiecewise f → PassesAll f → IsMinimal f
minimal_by_tests f l h m some = minimal_on_grid f l (test_has f (Passes f) h) m some

pub minimal_from_tests : (f : FunctionData) → IsWithinBounds f → PassesAll f → IsMinimal f
minimal_from_tests f l h = minimal_by_tests f (pieces_of l) h
