-- The affine filling of a minimal table is minimal.
use Rattle.std.proofs.Common.{◌≡◌, ℕ, inl, inr, ◌+◌, ◌-◌, ◌*◌, ◌/◌, ◌%◌, ◌<◌, ◌≤◌, ℤ, pos, ◌+ℤ◌, ◌*ℤ◌, ◌≤ℤ◌, [], ◌∷◌, refl, sym, ap, ap₂, subst, subst₂, ◌∙◌, mul-pos, mul_assoc, mul-le-mul_right, lt_of_mul-lt-mul_right, arith}
use Rattle.std.proofs.Math.Nat.{mod-lt, div-add-mod', mul-div_left, mul-mod_left, add-mod_right}
use Rattle.std.proofs.lemmas.Bool.{cases_lt}
use Rattle.std.proofs.lemmas.Int.{ints}
use Rattle.gj_lemmas.proofs.Integers.{mul_le_mul_left_z, mul_nonnegative_z, mul_cancel_left_z}
use Rattle.gj_lemmas.proofs.Quotients.{parts_of_place, parts_of_remainder}
use Rattle.gj_lemmas.proofs.Ring.{by_ring, ring}
use Rattle.gj_shape.specs.Extreme.{IsExtremeTable}
use Rattle.gj_shape.specs.FunctionData.{FunctionData, IsWithinBounds, IsContinuous, at}
use Rattle.gj_shape.specs.Table.{table, IsMinimalTable}
use Rattle.gj_shape.proofs.TableLemmas.{period_of_parts}
use Rattle.gj_theory.specs.Filling.{filling}
use Rattle.gj_theory.specs.Halves.{AreDifferentHalves}
use Rattle.gj_theory.proofs.TightFaces.{value_at_place}

-- ---- the filling from one entry to the next, both among them

last_weight_z : (m : ℕ) (x y z : ℤ) → pos (m - 0) *ℤ y +ℤ pos 0 *ℤ z ≡ pos 0 *ℤ x +ℤ pos m *ℤ y
last_weight_z m x y z =
    let whole : m - 0 ≡ m = omega arith in
    ap (λ n. pos n *ℤ y +ℤ pos 0 *ℤ z) whole
    ∙ by_ring (pos m ∷ x ∷ y ∷ z ∷ []) (search ring depth 20) refl

pub filling_at : (t : ℕ → ℤ) (m i a u r : ℕ) → 0 < m → i ≡ a * m + r → u + r ≡ m →
    filling t m i ≡ pos u *ℤ t a +ℤ pos r *ℤ t (a + 1)
unfolding filling
filling_at t m i a u r some e whole = elim (cases_lt r m) [
  | inl inner ↦
      let parts = parts_of_place i a m r e inner in
      let weight : m - r ≡ u = omega arith in
      ap₂ (λ b s. pos (m - s) *ℤ t b +ℤ pos s *ℤ t (b + 1)) parts.0 parts.1
      ∙ ap (λ n. pos n *ℤ t a +ℤ pos r *ℤ t (a + 1)) weight
  | inr last ↦
      let parts = parts_of_place i (a + 1) m 0 (omega arith) some in
      let none : u ≡ 0 = omega arith in
      let all : r ≡ m = omega arith in
      ap₂ (λ b s. pos (m - s) *ℤ t b +ℤ pos s *ℤ t (b + 1)) parts.0 parts.1
      ∙ last_weight_z m (t a) (t (a + 1)) (t (a + 1 + 1))
      ∙ ap₂ (λ v w. pos v *ℤ t a +ℤ pos w *ℤ t (a + 1)) (sym none) (sym all)
]

pub filling_at_multiple : (t : ℕ → ℤ) (m a : ℕ) → 0 < m → filling t m (a * m) ≡ pos m *ℤ t a
filling_at_multiple t m a some =
    filling_at t m (a * m) a m 0 some (omega arith) (omega arith)
    ∙ by_ring (pos m ∷ t a ∷ t (a + 1) ∷ []) (search ring depth 20) refl

pub filling_period : (t : ℕ → ℤ) (n m : ℕ) → 0 < m → ((i : ℕ) → t (i + n) ≡ t i) → (i : ℕ) →
    filling t m (i + n * m) ≡ filling t m i
unfolding filling
filling_period t n m some period i =
    period_of_parts (λ a r. pos (m - r) *ℤ t a +ℤ pos r *ℤ t (a + 1)) n m i some
    (λ a r. ap₂ (λ x y. pos (m - r) *ℤ x +ℤ pos r *ℤ y) (period a)
    (ap t (let e : a + n + 1 ≡ a + 1 + n = omega arith in e) ∙ period (a + 1)))

-- where a place lies
pub parts_at : (i m : ℕ) → i ≡ i / m * m + i % m
parts_at i m = sym (div-add-mod' i m)

-- ---- signs and sums of the entries

filling_nonnegative : (t : ℕ → ℤ) (m : ℕ) → ((i : ℕ) → pos 0 ≤ℤ t i) → (i : ℕ) →
    pos 0 ≤ℤ filling t m i
unfolding filling
filling_nonnegative t m h i =
    let first = mul_nonnegative_z (pos (m - i % m)) (t (i / m)) (omega (arith, ints)) (h (i / m)) in
    let second = mul_nonnegative_z (pos (i % m)) (t (i / m + 1)) (omega (arith, ints))
    (h (i / m + 1)) in
    omega (arith, ints)

low_le : (w r s : ℕ) (x x' y y' z z' : ℤ) → z ≤ℤ (x +ℤ y) → z' ≤ℤ (x' +ℤ y) → z' ≤ℤ (x +ℤ y') →
    (pos w *ℤ z +ℤ pos (r + s) *ℤ z')
    ≤ℤ ((pos (w + s) *ℤ x +ℤ pos r *ℤ x') +ℤ (pos (w + r) *ℤ y +ℤ pos s *ℤ y'))
low_le w r s x x' y y' z z' e g h =
    let first = mul_le_mul_left_z z (x +ℤ y) (pos w) (omega (arith, ints)) e in
    let second = mul_le_mul_left_z z' (x' +ℤ y) (pos r) (omega (arith, ints)) g in
    let third = mul_le_mul_left_z z' (x +ℤ y') (pos s) (omega (arith, ints)) h in
    let whole : (pos (w + s) *ℤ x +ℤ pos r *ℤ x') +ℤ (pos (w + r) *ℤ y +ℤ pos s *ℤ y')
    ≡ pos w *ℤ (x +ℤ y) +ℤ (pos r *ℤ (x' +ℤ y) +ℤ pos s *ℤ (x +ℤ y')) =
    by_ring (pos w ∷ pos r ∷ pos s ∷ x ∷ x' ∷ y ∷ y' ∷ []) (search ring depth 20) refl in
    let part : pos (r + s) *ℤ z' ≡ pos r *ℤ z' +ℤ pos s *ℤ z' =
    by_ring (pos r ∷ pos s ∷ z' ∷ []) (search ring depth 20) refl in
    rw (whole, part) (sum_le first second third)
  where
    sum_le : {a b c a' b' c' : ℤ} → a ≤ℤ a' → b ≤ℤ b' → c ≤ℤ c' →
        (a +ℤ (b +ℤ c)) ≤ℤ (a' +ℤ (b' +ℤ c'))
    sum_le p q o = omega (arith, ints)

high_le : (u v w : ℕ) (x x' y y' z z' : ℤ) → z ≤ℤ (x +ℤ y') → z ≤ℤ (x' +ℤ y) → z' ≤ℤ (x' +ℤ y') →
    (pos (u + v) *ℤ z +ℤ pos w *ℤ z')
    ≤ℤ ((pos u *ℤ x +ℤ pos (v + w) *ℤ x') +ℤ (pos v *ℤ y +ℤ pos (u + w) *ℤ y'))
high_le u v w x x' y y' z z' e g h =
    let first = mul_le_mul_left_z z (x +ℤ y') (pos u) (omega (arith, ints)) e in
    let second = mul_le_mul_left_z z (x' +ℤ y) (pos v) (omega (arith, ints)) g in
    let third = mul_le_mul_left_z z' (x' +ℤ y') (pos w) (omega (arith, ints)) h in
    let whole : (pos u *ℤ x +ℤ pos (v + w) *ℤ x') +ℤ (pos v *ℤ y +ℤ pos (u + w) *ℤ y')
    ≡ pos u *ℤ (x +ℤ y') +ℤ (pos v *ℤ (x' +ℤ y) +ℤ pos w *ℤ (x' +ℤ y')) =
    by_ring (pos u ∷ pos v ∷ pos w ∷ x ∷ x' ∷ y ∷ y' ∷ []) (search ring depth 20) refl in
    let part : pos (u + v) *ℤ z +ℤ pos w *ℤ z' ≡ pos u *ℤ z +ℤ (pos v *ℤ z +ℤ pos w *ℤ z') =
    by_ring (pos u ∷ pos v ∷ pos w ∷ z ∷ z' ∷ []) (search ring depth 20) refl in
    rw (whole, part) (sum_le first second third)
  where
    sum_le : {a b c a' b' c' : ℤ} → a ≤ℤ a' → b ≤ℤ b' → c ≤ℤ c' →
        (a +ℤ (b +ℤ c)) ≤ℤ (a' +ℤ (b' +ℤ c'))
    sum_le p q o = omega (arith, ints)

-- three numbers in place of what they are
le_by : {x x' y y' z z' : ℤ} → x ≡ x' → y ≡ y' → z ≡ z' → z' ≤ℤ (x' +ℤ y') → z ≤ℤ (x +ℤ y)
le_by e g h sum = rw (e, g, h) sum

-- an entry at a sum, spelled otherwise
at_sum : (t : ℕ → ℤ) → ((i j : ℕ) → t (i + j) ≤ℤ (t i +ℤ t j)) → (i j k : ℕ) → k ≡ i + j →
    t k ≤ℤ (t i +ℤ t j)
at_sum t h i j k e = subst (λ (n : ℕ). t n ≤ℤ (t i +ℤ t j)) (sym e) (h i j)

filling_subadditive : (t : ℕ → ℤ) (m : ℕ) → 0 < m → ((i j : ℕ) → t (i + j) ≤ℤ (t i +ℤ t j)) →
    (i j : ℕ) →
    filling t m (i + j) ≤ℤ (filling t m i +ℤ filling t m j)
filling_subadditive t m some h i j =
    let a = i / m in
    let b = j / m in
    let r = i % m in
    let s = j % m in
    let first : i ≡ a * m + r = parts_at i m in
    let second : j ≡ b * m + s = parts_at j m in
    let r_low : r < m = mod-lt i some in
    let s_low : s < m = mod-lt j some in
    elim (cases_lt (r + s) m) [
      | inl low ↦
          let w = m - (r + s) in
          le_by (filling_at t m i a (w + s) r some first (omega arith))
          (filling_at t m j b (w + r) s some second (omega arith))
          (filling_at t m (i + j) (a + b) w (r + s) some (omega arith) (omega arith))
          (low_le w r s _ _ _ _ _ _ (h a b) (at_sum t h (a + 1) b (a + b + 1) (omega arith))
          (at_sum t h a (b + 1) (a + b + 1) (omega arith)))
      | inr high ↦
          let u = m - r in
          let v = m - s in
          let w = r + s - m in
          le_by (filling_at t m i a u (v + w) some (omega arith) (omega arith))
          (filling_at t m j b v (u + w) some (omega arith) (omega arith))
          (filling_at t m (i + j) (a + b + 1) (u + v) w some (omega arith) (omega arith))
          (high_le u v w _ _ _ _ _ _ (at_sum t h a (b + 1) (a + b + 1) (omega arith))
          (at_sum t h (a + 1) b (a + b + 1) (omega arith))
          (at_sum t h (a + 1) (b + 1) (a + b + 1 + 1) (omega arith)))
    ]

-- ---- symmetry

-- the sum of two places that add up to k m, modulo n m
opposite_parts : (i j k n m : ℕ) → 0 < n → 0 < m → (i + j) % (n * m) ≡ (k * m) % (n * m) →
    ((i + j) / m % n ≡ k % n) × (i + j ≡ (i + j) / m * m)
opposite_parts i j k n m n_some m_some e =
    let sum = parts_of_remainder (i + j) n m n_some m_some in
    let place = parts_of_remainder (k * m) n m n_some m_some in
    let rest : (i + j) % m ≡ 0 = sym sum.1 ∙ ap (λ x. x % m) e ∙ place.1 ∙ mul-mod_left k m in (
      sym sum.0 ∙ ap (λ x. x / m) e ∙ place.0 ∙ ap (λ x. x % n) (mul-div_left k m_some),
      parts_at (i + j) m ∙ ap (λ x. (i + j) / m * m + x) rest ∙ omega arith,
    )

opposite_sum : (u r m s : ℕ) (x x' y y' : ℤ) → u + r ≡ m → x +ℤ y' ≡ pos s → x' +ℤ y ≡ pos s →
    (pos u *ℤ x +ℤ pos r *ℤ x') +ℤ (pos r *ℤ y +ℤ pos u *ℤ y') ≡ pos (s * m)
opposite_sum u r m s x x' y y' whole e g =
    by_ring (pos u ∷ pos r ∷ x ∷ x' ∷ y ∷ y' ∷ []) (search ring depth 20) refl
    ∙ ap₂ (λ v w. pos u *ℤ v +ℤ pos r *ℤ w) e g
    ∙ by_ring (pos u ∷ pos r ∷ pos s ∷ []) (search ring depth 20) refl ∙ ap (λ n. pos (s * n)) whole

-- for places that add up to at least one more than i, in units of m
filling_opposite : (t : ℕ → ℤ) (n k s m : ℕ) → 0 < n → 0 < m → IsMinimalTable t n k s → (i j : ℕ) →
    m ≤ j →
    (i + j) % (n * m) ≡ (k * m) % (n * m) → filling t m i +ℤ filling t m j ≡ pos (s * m)
filling_opposite t n k s m n_some m_some h i j high e =
    let parts = opposite_parts i j k n m n_some m_some e in
    let a = i / m in
    let r = i % m in
    let u = m - r in
    let first : i ≡ a * m + r = parts_at i m in
    let low : r < m = mod-lt i m_some in
    let sum = (i + j) / m in
    let sum_is : i + j ≡ sum * m = parts.1 in
    let above : a < sum = lt_of_mul-lt-mul_right m (omega arith) in
    let b = sum - (a + 1) in
    let one : a + (b + 1) ≡ sum = omega arith in
    let other : a + 1 + b ≡ sum = omega arith in
    let second : j ≡ b * m + u = omega (arith, ap (λ x. x * m) one) in
    ap₂ (λ x y. x +ℤ y) (filling_at t m i a u r m_some first (omega arith))
    (filling_at t m j b r u m_some second (omega arith))
    ∙ opposite_sum u r m s (t a) (t (a + 1)) (t b) (t (b + 1)) (omega arith)
    (h.symmetric a (b + 1) (ap (λ x. x % n) one ∙ parts.0))
    (h.symmetric (a + 1) b (ap (λ x. x % n) other ∙ parts.0))

filling_symmetric : (t : ℕ → ℤ) (n k s m : ℕ) → 0 < n → 0 < m → IsMinimalTable t n k s → (i j : ℕ) →
    (i + j) % (n * m) ≡ (k * m) % (n * m) → filling t m i +ℤ filling t m j ≡ pos (s * m)
filling_symmetric t n k s m n_some m_some h i j e =
    let further : i + (j + n * m) ≡ i + j + n * m = omega arith in
    let long : m ≤ n * m = omega (arith, mul-le-mul_right m n_some) in
    ap (λ x. filling t m i +ℤ x) (sym (filling_period t n m m_some h.has_period j))
    ∙ filling_opposite t n k s m n_some m_some h i (j + n * m) (omega arith)
    (ap (λ x. x % (n * m)) further ∙ add-mod_right (i + j) (n * m) ∙ e)

pub filling_minimal : (t : ℕ → ℤ) (n k s m : ℕ) → 0 < n → 0 < m → IsMinimalTable t n k s →
    IsMinimalTable (filling t m) (n * m) (k * m) (s * m)
filling_minimal t n k s m n_some m_some h = record {
  has_period = filling_period t n m m_some h.has_period;
  zero_at_zero =
      let start : 0 ≡ 0 * m = omega arith in
      ap (filling t m) start ∙ filling_at_multiple t m 0 m_some
      ∙ ap (λ x. pos m *ℤ x) h.zero_at_zero
      ∙ omega (arith, ints);
  nonnegative = filling_nonnegative t m h.nonnegative;
  subadditive = filling_subadditive t m m_some h.subadditive;
  symmetric = filling_symmetric t n k s m n_some m_some h;
}

-- ---- tables of continuous functions

finer_z : (u r g e : ℕ) (x y : ℤ) →
    pos (g * (u + r) + u) *ℤ x +ℤ pos (e * (u + r) + r) *ℤ y
    ≡ pos u *ℤ (pos (g + 1) *ℤ x +ℤ pos e *ℤ y) +ℤ pos r *ℤ (pos g *ℤ x +ℤ pos (e + 1) *ℤ y)
finer_z u r g e x y = by_ring (pos u ∷ pos r ∷ pos g ∷ pos e ∷ x ∷ y ∷ [])
    (search ring depth 30) refl

finer_at : (f : FunctionData) (i j a u r g e : ℕ) → IsContinuous f → 0 < u → i ≡ j * (u + r) + r →
    j ≡ a * (g + 1 + e) + e →
    table f ((g + 1 + e) * (u + r)) i ≡ filling (table f (g + 1 + e)) (u + r) i
finer_at f i j a u r g e c u_some i_is j_is =
    let d = g + 1 + e in
    let m = u + r in
    let next : j + 1 ≡ a * d + (e + 1) = omega arith in
    let place : i ≡ a * (d * m) + (e * m + r) = i_is ∙ ap (λ x. x * m + r) j_is ∙ omega arith in
    value_at_place f (d * m) i a (g * m + u) (e * m + r) c
    (mul-pos (omega arith) (omega arith)) place (omega arith)
    ∙ finer_z u r g e (at f.value a) (at f.value (a + 1))
    ∙ ap₂ (λ x y. pos u *ℤ x +ℤ pos r *ℤ y)
    (sym (value_at_place f d j a (g + 1) e c (omega arith) j_is refl))
    (sym (value_at_place f d (j + 1) a g (e + 1) c (omega arith) next (omega arith)))
    ∙ sym (filling_at (table f d) m i j u r (omega arith) i_is refl)

pub finer_is_filling : (f : FunctionData) (d m i : ℕ) → IsContinuous f → 0 < d → 0 < m →
    table f (d * m) i ≡ filling (table f d) m i
finer_is_filling f d m i c d_some m_some =
    let j = i / m in
    let r = i % m in
    let u = m - r in
    let e = j % d in
    let g = d - (e + 1) in
    let r_low : r < m = mod-lt i m_some in
    let e_low : e < d = mod-lt j d_some in
    let d_is : g + 1 + e ≡ d = omega arith in
    let m_is : u + r ≡ m = omega arith in
    subst₂ (λ (x y : ℕ). table f (x * y) i ≡ filling (table f x) y i) d_is m_is
    (finer_at f i j (j / d) u r g e c (omega arith) (parts_at i m ∙ ap (λ x. j * x + r) (sym m_is))
    (parts_at j d ∙ ap (λ x. j / d * x + e) (sym d_is)))

-- ---- halves on finer grids

pub finer_halves : (t : ℕ → ℤ) (n k s c m : ℕ) (a b : ℕ → ℤ) → 0 < n → 0 < m →
    AreDifferentHalves t n k s c a b →
    AreDifferentHalves (filling t m) (n * m) (k * m) (s * m) c (filling a m) (filling b m)
finer_halves t n k s c m a b n_some m_some h = record {
  factor = h.factor;
  first = minimal a h.first;
  second = minimal b h.second;
  average = λ i.
      let at_i = λ (x : ℕ → ℤ). filling_at x m i (i / m) (m - i % m) (i % m) m_some (parts_at i m)
      (let low = mod-lt i m_some in omega arith) in
      ap₂ (λ x y. x +ℤ y) (at_i a) (at_i b)
      ∙ average_between (m - i % m) (i % m) (2 * c) _ _ _ _ _ _ (h.average (i / m))
      (h.average (i / m + 1))
      ∙ ap (λ x. pos (2 * c) *ℤ x) (sym (at_i t));
  index = h.index * m;
  different = λ same. h.different
      (mul_cancel_left_z (a h.index) (b h.index) (pos m)
      (sym (filling_at_multiple a m h.index m_some) ∙ same ∙ filling_at_multiple b m h.index m_some)
      (omega arith));
}
  where
    minimal : (x : ℕ → ℤ) → IsMinimalTable x n k (c * s) →
        IsMinimalTable (filling x m) (n * m) (k * m) (c * (s * m))
    minimal x x_minimal =
        subst (IsMinimalTable (filling x m) (n * m) (k * m)) (mul_assoc c s m)
        (filling_minimal x n k (c * s) m n_some m_some x_minimal)

    average_between : (u r c : ℕ) (x x' y y' z z' : ℤ) → x +ℤ y ≡ pos c *ℤ z →
        x' +ℤ y' ≡ pos c *ℤ z' →
        (pos u *ℤ x +ℤ pos r *ℤ x') +ℤ (pos u *ℤ y +ℤ pos r *ℤ y')
        ≡ pos c *ℤ (pos u *ℤ z +ℤ pos r *ℤ z')
    average_between u r c x x' y y' z z' e g =
        by_ring (pos u ∷ pos r ∷ x ∷ x' ∷ y ∷ y' ∷ []) (search ring depth 20) refl
        ∙ ap₂ (λ v w. pos u *ℤ v +ℤ pos r *ℤ w) e g
        ∙ by_ring (pos u ∷ pos r ∷ pos c ∷ z ∷ z' ∷ []) (search ring depth 20) refl

-- halves of a table are halves of one with the same entries
halves_of_same : (t t' a b : ℕ → ℤ) (n k s n' k' s' c : ℕ) → ((i : ℕ) → t' i ≡ t i) → n ≡ n' →
    k ≡ k' → s ≡ s' →
    AreDifferentHalves t n k s c a b → AreDifferentHalves t' n' k' s' c a b
halves_of_same t t' a b n k s n' k' s' c e n_is k_is s_is h = record {
  factor = h.factor;
  first = rw (← n_is, ← k_is, ← s_is) h.first;
  second = rw (← n_is, ← k_is, ← s_is) h.second;
  average = λ i. h.average i ∙ ap (λ x. pos (2 * c) *ℤ x) (sym (e i));
  index = h.index;
  different = h.different;
}

pub function_finer_halves : (f : FunctionData) (d m c : ℕ) (a b : ℕ → ℤ) → IsWithinBounds f →
    IsContinuous f → 0 < d →
    0 < m → AreDifferentHalves (table f d) (f.order * d) (f.place * d) (f.scale * d) c a b →
    AreDifferentHalves (table f (d * m)) (f.order * (d * m)) (f.place * (d * m))
    (f.scale * (d * m)) c
    (filling a m) (filling b m)
function_finer_halves f d m c a b l continuous d_some m_some h =
    halves_of_same (filling (table f d) m) (table f (d * m)) (filling a m) (filling b m)
    (f.order * d * m)
    (f.place * d * m) (f.scale * d * m) (f.order * (d * m)) (f.place * (d * m))
    (f.scale * (d * m)) c
    (λ i. finer_is_filling f d m i continuous d_some m_some) (mul_assoc f.order d m)
    (mul_assoc f.place d m)
    (mul_assoc f.scale d m)
    (finer_halves (table f d) (f.order * d) (f.place * d) (f.scale * d) c m a b
    (mul-pos (omega arith) d_some) m_some h)

-- different halves deny that the table is extreme
pub halves_deny : (t : ℕ → ℤ) (n k s c : ℕ) (a b : ℕ → ℤ) → AreDifferentHalves t n k s c a b →
    IsExtremeTable t n k s → ⊥
halves_deny t n k s c a b h extreme =
    h.different (extreme.no_average c a b h.factor h.first h.second h.average h.index)
