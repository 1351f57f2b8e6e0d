-- The fill-in of a table: the least over all places of the table plus a sublinear function, and so
-- subadditive.
use Rattle.std.proofs.Common.{◌≡◌, ℕ, zero, suc, ◌⊎◌, inl, inr, ◌+◌, ◌-◌, ◌*◌, ◌/◌, ◌%◌, ◌<◌, ◌≤◌, ℤ, pos, ◌+ℤ◌, ◌-ℤ◌, ◌*ℤ◌, ◌≤ℤ◌, [], ◌∷◌, refl, ap, ap₂, sym, subst, ◌∙◌, arith}
use Rattle.std.specs.Int.{int_min}
use Rattle.std.proofs.Math.Nat.{div-add-mod', mod-lt, mul-le-mul_right, mul-lt-mul_of_pos_right}
use Rattle.std.proofs.lemmas.Bool.{cases_lt}
use Rattle.std.proofs.lemmas.Int.{ints, by_lt_z}
use Rattle.gj_lemmas.proofs.Integers.{add_comm_z, mul_le_mul_left_z, mul_nonnegative_z, mul_add_z, add_mul_z}
use Rattle.gj_lemmas.proofs.Lesser.{min_below, min_first, min_second}
use Rattle.gj_lemmas.proofs.Quotients.{parts_of_place}
use Rattle.gj_lemmas.proofs.Ring.{by_ring, ring}
use Rattle.gj_shape.proofs.TableLemmas.{period_of_parts}
use Rattle.gj_fill.specs.FillIn.{IsSubadditiveTable, AreGreatestSteps, filled_between, filled}

-- ---- the fill-in at a place that is given by its parts

pub filled_at : (v : ℕ → ℤ) (s t : ℤ) (m a r i : ℕ) → i ≡ a * m + r → r < m →
    filled v s t m i ≡ filled_between v s t m a r
unfolding filled
filled_at v s t m a r i e low = let parts = parts_of_place i a m r e low in
    ap₂ (filled_between v s t m) parts.0 parts.1

-- ---- many steps

climb : (v : ℕ → ℤ) (s : ℤ) → ((a : ℕ) → (v (a + 1) -ℤ v a) ≤ℤ s) → (a k : ℕ) →
    v (a + k) ≤ℤ (v a +ℤ pos k *ℤ s)
climb v s rises a zero =
    let here : v (a + zero) ≡ v a = ap v (omega arith) in
    omega (arith, ints)
climb v s rises a (suc k) =
    let next : v (a + suc k) ≡ v (a + k + 1) = ap v (omega arith) in
    let before = climb v s rises a k in
    let step = rises (a + k) in
    let more : pos (suc k) *ℤ s ≡ pos k *ℤ s +ℤ s =
    by_ring (pos k ∷ s ∷ []) (search ring depth 20) refl in
    omega (arith, ints)

descend : (v : ℕ → ℤ) (t : ℤ) → ((a : ℕ) → (v a -ℤ v (a + 1)) ≤ℤ t) → (a k : ℕ) →
    v a ≤ℤ (v (a + k) +ℤ pos k *ℤ t)
descend v t falls a zero =
    let here : v (a + zero) ≡ v a = ap v (omega arith) in
    omega (arith, ints)
descend v t falls a (suc k) =
    let next : v (a + suc k) ≡ v (a + k + 1) = ap v (omega arith) in
    let before = descend v t falls a k in
    let step = falls (a + k) in
    let more : pos (suc k) *ℤ t ≡ pos k *ℤ t +ℤ t =
    by_ring (pos k ∷ t ∷ []) (search ring depth 20) refl in
    omega (arith, ints)

-- a bound over m times the scale
times_bound : (m k : ℕ) (x y z : ℤ) → x ≤ℤ (y +ℤ pos k *ℤ z) →
    (pos m *ℤ x) ≤ℤ (pos m *ℤ y +ℤ pos (k * m) *ℤ z)
times_bound m k x y z h =
    let low = mul_le_mul_left_z x (y +ℤ pos k *ℤ z) (pos m) (omega (arith, ints)) h in
    let split : pos m *ℤ (y +ℤ pos k *ℤ z) ≡ pos m *ℤ y +ℤ pos (k * m) *ℤ z =
    by_ring (pos m ∷ pos k ∷ y ∷ z ∷ []) (search ring depth 20) refl in
    omega (arith, ints)

-- ---- the least over all places u of the table at u plus s or t times the distance, by which side
-- the place lies on

pub below_rise : (v : ℕ → ℤ) (s t : ℤ) (m i u d : ℕ) → AreGreatestSteps v s t → 0 < m →
    i ≡ u * m + d →
    filled v s t m i ≤ℤ (pos m *ℤ v u +ℤ pos d *ℤ s)
below_rise v s t m i u d h some e =
    let k = d / m in
    let r = d % m in
    let parts : k * m + r ≡ d = div-add-mod' d m in
    let place : i ≡ (u + k) * m + r = omega arith in
    let at = filled_at v s t m (u + k) r i place (mod-lt d some) in
    let low = (min_below (pos m *ℤ v (u + k) +ℤ pos r *ℤ s)
    (pos m *ℤ v (u + k + 1) +ℤ pos (m - r) *ℤ t)).0 in
    let up = times_bound m k (v (u + k)) (v u) s (climb v s h.rises u k) in
    let sum : pos d *ℤ s ≡ pos (k * m) *ℤ s +ℤ pos r *ℤ s =
    ap (λ n. pos n *ℤ s) (sym parts)
    ∙ by_ring (pos k ∷ pos m ∷ pos r ∷ s ∷ []) (search ring depth 20) refl in
    omega (arith, ints)

below_fall_whole : (v : ℕ → ℤ) (s t : ℤ) (m i a k : ℕ) → AreGreatestSteps v s t → 0 < m →
    i ≡ a * m →
    filled v s t m i ≤ℤ (pos m *ℤ v (a + k) +ℤ pos (k * m) *ℤ t)
below_fall_whole v s t m i a k h some e =
    let at = filled_at v s t m a 0 i (omega arith) some in
    let low = (min_below (pos m *ℤ v a +ℤ pos 0 *ℤ s) (pos m *ℤ v (a + 1) +ℤ pos (m - 0) *ℤ t)).0 in
    let up = times_bound m k (v a) (v (a + k)) t (descend v t h.falls a k) in
    omega (arith, ints)

below_fall_part : (v : ℕ → ℤ) (s t : ℤ) (m i a k r : ℕ) → AreGreatestSteps v s t → 0 < r → r < m →
    i + r ≡ (a + 1) * m →
    filled v s t m i ≤ℤ (pos m *ℤ v (a + 1 + k) +ℤ pos (k * m + r) *ℤ t)
below_fall_part v s t m i a k r h some small e =
    let at = filled_at v s t m a (m - r) i (omega arith) (omega arith) in
    let back : m - (m - r) ≡ r = omega arith in
    let part : pos (m - (m - r)) *ℤ t ≡ pos r *ℤ t = ap (λ n. pos n *ℤ t) back in
    let low = (min_below (pos m *ℤ v a +ℤ pos (m - r) *ℤ s)
    (pos m *ℤ v (a + 1) +ℤ pos (m - (m - r)) *ℤ t)).1 in
    let up = times_bound m k (v (a + 1)) (v (a + 1 + k)) t (descend v t h.falls (a + 1) k) in
    let sum : pos (k * m + r) *ℤ t ≡ pos (k * m) *ℤ t +ℤ pos r *ℤ t =
    by_ring (pos k ∷ pos m ∷ pos r ∷ t ∷ []) (search ring depth 20) refl in
    omega (arith, ints)

pub below_fall : (v : ℕ → ℤ) (s t : ℤ) (m i u d : ℕ) → AreGreatestSteps v s t → 0 < m →
    i + d ≡ u * m →
    filled v s t m i ≤ℤ (pos m *ℤ v u +ℤ pos d *ℤ t)
below_fall v s t m i u d h some e = by_rest (cases_lt 0 r)
  where
    k : ℕ
    k = d / m

    r : ℕ
    r = d % m

    parts : k * m + r ≡ d
    parts = div-add-mod' d m

    by_rest : (0 < r) ⊎ (r ≤ 0) → filled v s t m i ≤ℤ (pos m *ℤ v u +ℤ pos d *ℤ t)
    by_rest (inl more) = elim (cases_lt k u) [
      | inl above ↦
          let a = u - (k + 1) in
          let whole : u ≡ a + 1 + k = omega arith in
          let product : u * m ≡ (a + 1 + k) * m = ap (λ n. n * m) whole in
          let place : i + r ≡ (a + 1) * m = omega arith in
          let bound = below_fall_part v s t m i a k r h more (mod-lt d some) place in
          let same : v (a + 1 + k) ≡ v u = ap v (sym whole) in
          let same_rest : pos (k * m + r) *ℤ t ≡ pos d *ℤ t = ap (λ n. pos n *ℤ t) parts in
          subst (λ (z : ℤ). filled v s t m i ≤ℤ (pos m *ℤ v u +ℤ z)) same_rest
          (subst (λ (z : ℤ). filled v s t m i ≤ℤ (pos m *ℤ z +ℤ pos (k * m + r) *ℤ t)) same bound)
      | inr behind ↦ let product = mul-le-mul_right m behind in absurd (omega arith)
    ]
    by_rest (inr none) = elim (cases_lt u k) [
      | inl behind ↦
          let one : u + 1 ≤ k = omega arith in
          let product = mul-le-mul_right m one in
          absurd (omega arith)
      | inr above ↦
          let a = u - k in
          let whole : u ≡ a + k = omega arith in
          let product : u * m ≡ (a + k) * m = ap (λ n. n * m) whole in
          let place : i ≡ a * m = omega arith in
          let bound = below_fall_whole v s t m i a k h some place in
          let same : v (a + k) ≡ v u = ap v (sym whole) in
          let same_rest : pos (k * m) *ℤ t ≡ pos d *ℤ t =
          ap (λ n. pos n *ℤ t) (let rest : k * m ≡ d = omega arith in rest) in
          subst (λ (z : ℤ). filled v s t m i ≤ℤ (pos m *ℤ v u +ℤ z)) same_rest
          (subst (λ (z : ℤ). filled v s t m i ≤ℤ (pos m *ℤ z +ℤ pos (k * m) *ℤ t)) same bound)
    ]

-- the place at which it is reached
pub data IsReached (v : ℕ → ℤ) (s t : ℤ) (m i : ℕ) : Type 0 where
  rising : (u d : ℕ) → i ≡ u * m + d → filled v s t m i ≡ pos m *ℤ v u +ℤ pos d *ℤ s →
      IsReached v s t m i
  falling : (u d : ℕ) → i + d ≡ u * m → filled v s t m i ≡ pos m *ℤ v u +ℤ pos d *ℤ t →
      IsReached v s t m i

pub reached : (v : ℕ → ℤ) (s t : ℤ) (m i : ℕ) → 0 < m → IsReached v s t m i
reached v s t m i some =
    let a = i / m in
    let r = i % m in
    let parts : a * m + r ≡ i = div-add-mod' i m in
    let below = mod-lt i some in
    let at = filled_at v s t m a r i (sym parts) below in
    let x = pos m *ℤ v a +ℤ pos r *ℤ s in
    let y = pos m *ℤ v (a + 1) +ℤ pos (m - r) *ℤ t in
    by_lt_z y x
    (λ less. falling (a + 1) (m - r) (omega arith) (at ∙ min_second x y (omega (arith, ints))))
    (λ more. rising a r (sym parts) (at ∙ min_first x y more))

-- ---- subadditive

two_sides : (s t d e k : ℤ) → pos 0 ≤ℤ (s +ℤ t) → pos 0 ≤ℤ e → d ≡ e +ℤ k →
    (k *ℤ s) ≤ℤ (d *ℤ s +ℤ e *ℤ t)
two_sides s t d e k up some sum =
    let more = mul_nonnegative_z e (s +ℤ t) some up in
    let split : e *ℤ (s +ℤ t) ≡ e *ℤ s +ℤ e *ℤ t = mul_add_z e s t in
    let parts : d *ℤ s ≡ e *ℤ s +ℤ k *ℤ s = ap (λ z. z *ℤ s) sum ∙ add_mul_z e k s in
    omega (arith, ints)

-- sums at the places u and w
sum_of_values : (v : ℕ → ℤ) (m u w : ℕ) → IsSubadditiveTable v →
    (pos m *ℤ v (u + w)) ≤ℤ (pos m *ℤ v u +ℤ pos m *ℤ v w)
sum_of_values v m u w h =
    let low = mul_le_mul_left_z (v (u + w)) (v u +ℤ v w) (pos m) (omega (arith, ints)) (h u w) in
    let split = mul_add_z (pos m) (v u) (v w) in
    omega (arith, ints)

-- a place on the rising side of u and one on the falling side of w
mixed : (v : ℕ → ℤ) (s t : ℤ) (m i j u w d e : ℕ) → IsSubadditiveTable v → AreGreatestSteps v s t →
    0 < m → i ≡ u * m + d →
    j + e ≡ w * m → filled v s t m (i + j)
    ≤ℤ ((pos m *ℤ v u +ℤ pos d *ℤ s) +ℤ (pos m *ℤ v w +ℤ pos e *ℤ t))
mixed v s t m i j u w d e sub h some first second =
    let values = sum_of_values v m u w sub in
    let up : pos 0 ≤ℤ (s +ℤ t) = let x = h.rises 0 in let y = h.falls 0 in omega (arith, ints) in
    let turned = add_comm_z s t in
    elim (cases_lt d e) [
      | inl less ↦
          let k = e - d in
          let low = below_fall v s t m (i + j) (u + w) k h some (omega arith) in
          let side = two_sides t s (pos e) (pos d) (pos k) (omega (arith, ints))
          (omega (arith, ints)) (omega (arith, ints)) in
          omega (arith, ints)
      | inr more ↦
          let k = d - e in
          let low = below_rise v s t m (i + j) (u + w) k h some (omega arith) in
          let side = two_sides s t (pos d) (pos e) (pos k) up (omega (arith, ints))
          (omega (arith, ints)) in
          omega (arith, ints)
    ]

pub filled_subadditive : (v : ℕ → ℤ) (s t : ℤ) (m : ℕ) → IsSubadditiveTable v →
    AreGreatestSteps v s t → 0 < m →
    IsSubadditiveTable (filled v s t m)
filled_subadditive v s t m sub h some i j =
    by_sides (reached v s t m i some) (reached v s t m j some)
  where
    by_sides : IsReached v s t m i → IsReached v s t m j →
        filled v s t m (i + j) ≤ℤ (filled v s t m i +ℤ filled v s t m j)
    by_sides (rising u d e is) (rising w c g is') =
        let low = below_rise v s t m (i + j) (u + w) (d + c) h some (omega arith) in
        let values = sum_of_values v m u w sub in
        let parts : pos (d + c) *ℤ s ≡ pos d *ℤ s +ℤ pos c *ℤ s =
        by_ring (pos d ∷ pos c ∷ s ∷ []) (search ring depth 20) refl in
        omega (arith, ints)
    by_sides (falling u d e is) (falling w c g is') =
        let low = below_fall v s t m (i + j) (u + w) (d + c) h some (omega arith) in
        let values = sum_of_values v m u w sub in
        let parts : pos (d + c) *ℤ t ≡ pos d *ℤ t +ℤ pos c *ℤ t =
        by_ring (pos d ∷ pos c ∷ t ∷ []) (search ring depth 20) refl in
        omega (arith, ints)
    by_sides (rising u d e is) (falling w c g is') =
        let low = mixed v s t m i j u w d c sub h some e g in
        omega (arith, ints)
    by_sides (falling u d e is) (rising w c g is') =
        let low = mixed v s t m j i w u c d sub h some g e in
        let turned : filled v s t m (j + i) ≡ filled v s t m (i + j) =
        ap (filled v s t m) (omega arith) in
        omega (arith, ints)

-- ---- values

-- between two neighbouring places, both ends in, it is the lesser of the two lines
pub lesser : (v : ℕ → ℤ) (s t : ℤ) (m a r : ℕ) → AreGreatestSteps v s t → 0 < m → r ≤ m →
    filled v s t m (a * m + r) ≡ filled_between v s t m a r
lesser v s t m a r h some low = elim (cases_lt r m) [
  | inl below ↦ filled_at v s t m a r (a * m + r) refl below
  | inr end ↦
      let x = pos m *ℤ v a +ℤ pos r *ℤ s in
      let y = pos m *ℤ v (a + 1) +ℤ pos (m - r) *ℤ t in
      let x' = pos m *ℤ v (a + 1) +ℤ pos 0 *ℤ s in
      let y' = pos m *ℤ v (a + 1 + 1) +ℤ pos (m - 0) *ℤ t in
      let whole : r ≡ m = omega arith in
      let at = filled_at v s t m (a + 1) 0 (a * m + r) (omega arith) some in
      let step = times_bound m 1 (v (a + 1)) (v a) s (let up = h.rises a in omega (arith, ints)) in
      let next = times_bound m 1 (v (a + 1)) (v (a + 1 + 1)) t (let down = h.falls (a + 1) in
      omega (arith, ints)) in
      let r_is : pos r *ℤ s ≡ pos (1 * m) *ℤ s =
      ap (λ n. pos n *ℤ s) (let e : r ≡ 1 * m = omega arith in e) in
      let none : pos (m - r) *ℤ t ≡ pos 0 *ℤ t =
      ap (λ n. pos n *ℤ t) (let e : m - r ≡ 0 = omega arith in e) in
      let all : pos (m - 0) *ℤ t ≡ pos (1 * m) *ℤ t =
      ap (λ n. pos n *ℤ t) (let e : m - 0 ≡ 1 * m = omega arith in e) in
      let same : x' ≡ y = omega (arith, ints) in
      at ∙ min_first x' y' (omega (arith, ints)) ∙ same ∙ sym (min_second x y (omega (arith, ints)))
]

-- at the places it is the table
pub at_place : (v : ℕ → ℤ) (s t : ℤ) (m a : ℕ) → AreGreatestSteps v s t → 0 < m →
    filled v s t m (a * m) ≡ pos m *ℤ v a
at_place v s t m a h some =
    let x = pos m *ℤ v a +ℤ pos 0 *ℤ s in
    let y = pos m *ℤ v (a + 1) +ℤ pos (m - 0) *ℤ t in
    let next = times_bound m 1 (v a) (v (a + 1)) t (let down = h.falls a in omega (arith, ints)) in
    let all : pos (m - 0) *ℤ t ≡ pos (1 * m) *ℤ t =
    ap (λ n. pos n *ℤ t) (let e : m - 0 ≡ 1 * m = omega arith in e) in
    let same : x ≡ pos m *ℤ v a = omega (arith, ints) in
    filled_at v s t m a 0 (a * m) (omega arith) some ∙ min_first x y (omega (arith, ints)) ∙ same

pub less_part : (m r : ℕ) (t : ℤ) → r ≤ m → pos (m - r) *ℤ t ≡ pos m *ℤ t -ℤ pos r *ℤ t
less_part m r t low =
    let whole : pos m *ℤ t ≡ pos (m - r + r) *ℤ t =
    ap (λ n. pos n *ℤ t) (let e : m ≡ m - r + r = omega arith in e) in
    let parts : pos (m - r + r) *ℤ t ≡ pos (m - r) *ℤ t +ℤ pos r *ℤ t =
    add_mul_z (pos (m - r)) (pos r) t in
    omega (arith, ints)

-- up to the crossing it rises by s
pub rises_to : (v : ℕ → ℤ) (s t : ℤ) (m a r : ℕ) → AreGreatestSteps v s t → 0 < m → r ≤ m →
    (pos r *ℤ (s +ℤ t)) ≤ℤ (pos m *ℤ (v (a + 1) -ℤ v a +ℤ t)) →
    filled v s t m (a * m + r) ≡ pos m *ℤ v a +ℤ pos r *ℤ s
rises_to v s t m a r h some low before =
    let x = pos m *ℤ v a +ℤ pos r *ℤ s in
    let y = pos m *ℤ v (a + 1) +ℤ pos (m - r) *ℤ t in
    let part = less_part m r t low in
    let left : pos r *ℤ (s +ℤ t) ≡ pos r *ℤ s +ℤ pos r *ℤ t = mul_add_z (pos r) s t in
    let right : pos m *ℤ (v (a + 1) -ℤ v a +ℤ t) ≡ pos m *ℤ v (a + 1) -ℤ pos m *ℤ v a +ℤ pos m
    *ℤ t =
    by_ring (pos m ∷ v (a + 1) ∷ v a ∷ t ∷ []) (search ring depth 30) refl in
    lesser v s t m a r h some low ∙ min_first x y (omega (arith, ints))

-- from there on it falls by t
pub falls_from : (v : ℕ → ℤ) (s t : ℤ) (m a r : ℕ) → AreGreatestSteps v s t → 0 < m → r ≤ m →
    (pos m *ℤ (v (a + 1) -ℤ v a +ℤ t)) ≤ℤ (pos r *ℤ (s +ℤ t)) →
    filled v s t m (a * m + r) ≡ pos m *ℤ v (a + 1) +ℤ pos (m - r) *ℤ t
falls_from v s t m a r h some low behind =
    let x = pos m *ℤ v a +ℤ pos r *ℤ s in
    let y = pos m *ℤ v (a + 1) +ℤ pos (m - r) *ℤ t in
    let part = less_part m r t low in
    let left : pos r *ℤ (s +ℤ t) ≡ pos r *ℤ s +ℤ pos r *ℤ t = mul_add_z (pos r) s t in
    let right : pos m *ℤ (v (a + 1) -ℤ v a +ℤ t) ≡ pos m *ℤ v (a + 1) -ℤ pos m *ℤ v a +ℤ pos m
    *ℤ t =
    by_ring (pos m ∷ v (a + 1) ∷ v a ∷ t ∷ []) (search ring depth 30) refl in
    lesser v s t m a r h some low ∙ min_second x y (omega (arith, ints))

-- ---- one function on all grids

pub filled_period : (v : ℕ → ℤ) (s t : ℤ) (m q : ℕ) → 0 < m → ((a : ℕ) → v (a + q) ≡ v a) →
    (i : ℕ) →
    filled v s t m (i + q * m) ≡ filled v s t m i
unfolding filled
filled_period v s t m q some period i =
    period_of_parts (filled_between v s t m) q m i some
    (λ a r.
    let next : v (a + q + 1) ≡ v (a + 1) = ap v (let e : a + q + 1 ≡ a + 1 + q = omega arith in e)
    ∙ period (a + 1) in
    ap₂ (λ x y. int_min (pos m *ℤ x +ℤ pos r *ℤ s) (pos m *ℤ y +ℤ pos (m - r) *ℤ t))
    (period a) next)

times_min : (m : ℕ) (x y : ℤ) → int_min (pos m *ℤ x) (pos m *ℤ y) ≡ pos m *ℤ int_min x y
times_min m x y =
    by_lt_z y x
    (λ less.
    let low = mul_le_mul_left_z y x (pos m) (omega (arith, ints)) (omega (arith, ints)) in
    min_second (pos m *ℤ x) (pos m *ℤ y) low
    ∙ ap (λ z. pos m *ℤ z) (sym (min_second x y (omega (arith, ints)))))
    (λ more.
    let low = mul_le_mul_left_z x y (pos m) (omega (arith, ints)) more in
    min_first (pos m *ℤ x) (pos m *ℤ y) low ∙ ap (λ z. pos m *ℤ z) (sym (min_first x y more)))

pub filled_finer : (v : ℕ → ℤ) (s t : ℤ) (d m j : ℕ) → 0 < d → 0 < m →
    filled v s t (d * m) (j * m) ≡ pos m *ℤ filled v s t d j
filled_finer v s t d m j d_some m_some =
    let a = j / d in
    let r = j % d in
    let parts : a * d + r ≡ j = div-add-mod' j d in
    let below : r < d = mod-lt j d_some in
    let finer : j * m ≡ a * (d * m) + r * m = ap (λ n. n * m) (sym parts) ∙ omega arith in
    let k = d - r in
    let whole : d ≡ k + r = omega arith in
    let product : d * m ≡ (k + r) * m = ap (λ n. n * m) whole in
    let rest : d * m - r * m ≡ k * m = omega arith in
    let first : pos (d * m) *ℤ v a +ℤ pos (r * m) *ℤ s ≡ pos m *ℤ (pos d *ℤ v a +ℤ pos r *ℤ s) =
    by_ring (pos d ∷ pos m ∷ pos r ∷ v a ∷ s ∷ []) (search ring depth 30) refl in
    let second : pos (d * m) *ℤ v (a + 1) +ℤ pos (k * m) *ℤ t
    ≡ pos m *ℤ (pos d *ℤ v (a + 1) +ℤ pos k *ℤ t) =
    by_ring (pos d ∷ pos m ∷ pos k ∷ v (a + 1) ∷ t ∷ []) (search ring depth 30) refl in
    filled_at v s t (d * m) a (r * m) (j * m) finer (mul-lt-mul_of_pos_right below m_some)
    ∙ ap (λ n. int_min (pos (d * m) *ℤ v a +ℤ pos (r * m) *ℤ s)
    (pos (d * m) *ℤ v (a + 1) +ℤ pos n *ℤ t)) rest
    ∙ ap₂ int_min first second
    ∙ times_min m (pos d *ℤ v a +ℤ pos r *ℤ s) (pos d *ℤ v (a + 1) +ℤ pos k *ℤ t)
    ∙ ap (λ z. pos m *ℤ z) (sym (filled_at v s t d a r j (sym parts) below))
