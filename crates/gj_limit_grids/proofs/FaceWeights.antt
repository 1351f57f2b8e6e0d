-- Each limit of the slack on a finer grid is a sum of the limits at the corners of one face of the
-- function's own complex, with weights that add up to m.
use Rattle.std.proofs.Common.{◌≡◌, ℕ, zero, suc, inl, inr, ◌+◌, ◌-◌, ◌*◌, ◌/◌, ◌%◌, ◌<◌, ℤ, pos, ◌+ℤ◌, ◌*ℤ◌, [], ◌∷◌, refl, ap, sym, ◌∙◌, arith}
use Rattle.std.proofs.Math.Nat.{div-add-mod', mod-lt}
use Rattle.std.proofs.lemmas.Bool.{cases_lt, cases_order}
use Rattle.gj_lemmas.proofs.Ring.{by_ring, ring}
use Rattle.gj_shape.specs.Faces.{limits_of, slack_from}
use Rattle.gj_shape.specs.FunctionData.{FunctionData, at}
use Rattle.gj_shape.specs.Refinement.{refined}
use Rattle.gj_shape.specs.declared.faces.FaceKind.{FaceKind}
use Rattle.gj_shape.specs.declared.faces.FaceKind.TheVariants.{Vertex, Horizontal, Vertical, Diagonal, Lower, Upper}
use Rattle.gj_theory.proofs.Affine.{weighted}
use Rattle.gj_theory.proofs.MinimalFromTests.{Place, place_of}
use Rattle.gj_theory.proofs.MinimalFromTests.Place.{at_multiple, inside}
use Rattle.gj_jumps.specs.LimitSystem.{Limits}
use Rattle.gj_limit_grids.specs.Grids.{limits_on, slack_at_corner}
use Rattle.gj_limit_grids.proofs.Refined.{between, IsOnLine, IsAtMultiple, right_on_line, value_on_line, left_on_line, value_at_multiple}

-- the point (x, y) of the finer grid lies on a face, and the limit is the sum of those at the
-- corners of the face, each times the weight that the point has there
pub data IsFromFace (f : FunctionData) (m x y : ℕ) (limit : ℤ) : Type 0 where
  vertex : (a b : ℕ) → x ≡ a * m → y ≡ b * m → limit ≡ weighted (m ∷ []) (limits_of f Vertex a b) →
      IsFromFace f m x y limit
  horizontal : (a b u r : ℕ) → u + r ≡ m → x ≡ a * m + r → y ≡ b * m →
      limit ≡ weighted (u ∷ r ∷ []) (limits_of f Horizontal a b) → IsFromFace f m x y limit
  vertical : (a b v s : ℕ) → v + s ≡ m → x ≡ a * m → y ≡ b * m + s →
      limit ≡ weighted (v ∷ s ∷ []) (limits_of f Vertical a b) → IsFromFace f m x y limit
  diagonal : (a b r s : ℕ) → r + s ≡ m → x ≡ a * m + r → y ≡ b * m + s →
      limit ≡ weighted (r ∷ s ∷ []) (limits_of f Diagonal a b) → IsFromFace f m x y limit
  lower : (a b w r s : ℕ) → w + r + s ≡ m → x ≡ a * m + r → y ≡ b * m + s →
      limit ≡ weighted (w ∷ r ∷ s ∷ []) (limits_of f Lower a b) → IsFromFace f m x y limit
  upper : (a b u v w : ℕ) → u + v + w ≡ m → x ≡ a * m + (u + w) → y ≡ b * m + (v + w) →
      limit ≡ weighted (u ∷ v ∷ w ∷ []) (limits_of f Upper a b) → IsFromFace f m x y limit

-- ---- the weights, over plain numbers

vertex_z : (m : ℕ) (x y t : ℤ) →
    slack_from (pos m *ℤ x) (pos m *ℤ y) (pos m *ℤ t) ≡ weighted (m ∷ []) (slack_from x y t ∷ [])
vertex_z m x y t = by_ring (pos m ∷ x ∷ y ∷ t ∷ []) (search ring depth 20) refl

horizontal_z : (u r : ℕ) (x x' y t t' : ℤ) →
    slack_from (pos u *ℤ x +ℤ pos r *ℤ x') (pos (u + r) *ℤ y) (pos u *ℤ t +ℤ pos r *ℤ t')
    ≡ weighted (u ∷ r ∷ []) (slack_from x y t ∷ slack_from x' y t' ∷ [])
horizontal_z u r x x' y t t' =
    by_ring (pos u ∷ pos r ∷ x ∷ x' ∷ y ∷ t ∷ t' ∷ []) (search ring depth 20) refl

vertical_z : (v s : ℕ) (x y y' t t' : ℤ) →
    slack_from (pos (v + s) *ℤ x) (pos v *ℤ y +ℤ pos s *ℤ y') (pos v *ℤ t +ℤ pos s *ℤ t')
    ≡ weighted (v ∷ s ∷ []) (slack_from x y t ∷ slack_from x y' t' ∷ [])
vertical_z v s x y y' t t' =
    by_ring (pos v ∷ pos s ∷ x ∷ y ∷ y' ∷ t ∷ t' ∷ []) (search ring depth 20) refl

diagonal_z : (r s : ℕ) (x x' y y' t : ℤ) →
    slack_from (pos s *ℤ x +ℤ pos r *ℤ x') (pos r *ℤ y +ℤ pos s *ℤ y') (pos (r + s) *ℤ t)
    ≡ weighted (r ∷ s ∷ []) (slack_from x' y t ∷ slack_from x y' t ∷ [])
diagonal_z r s x x' y y' t =
    by_ring (pos r ∷ pos s ∷ x ∷ x' ∷ y ∷ y' ∷ t ∷ []) (search ring depth 20) refl

lower_z : (w r s : ℕ) (x x' y y' t t' : ℤ) →
    slack_from (pos (w + s) *ℤ x +ℤ pos r *ℤ x') (pos (w + r) *ℤ y +ℤ pos s *ℤ y')
    (pos w *ℤ t +ℤ pos (r + s) *ℤ t')
    ≡ weighted (w ∷ r ∷ s ∷ []) (slack_from x y t ∷ slack_from x' y t' ∷ slack_from x y' t' ∷ [])
lower_z w r s x x' y y' t t' =
    by_ring (pos w ∷ pos r ∷ pos s ∷ x ∷ x' ∷ y ∷ y' ∷ t ∷ t' ∷ []) (search ring depth 30 fits 4000)
    refl

upper_z : (u v w : ℕ) (x x' y y' t t' : ℤ) →
    slack_from (pos v *ℤ x +ℤ pos (u + w) *ℤ x') (pos u *ℤ y +ℤ pos (v + w) *ℤ y')
    (pos (u + v) *ℤ t +ℤ pos w *ℤ t')
    ≡ weighted (u ∷ v ∷ w ∷ []) (slack_from x' y t ∷ slack_from x y' t ∷ slack_from x' y' t' ∷ [])
upper_z u v w x x' y y' t t' =
    by_ring (pos u ∷ pos v ∷ pos w ∷ x ∷ x' ∷ y ∷ y' ∷ t ∷ t' ∷ []) (search ring depth 30 fits 4000)
    refl

-- ---- each face

same_slack : {x x' y y' z z' : ℤ} → x ≡ x' → y ≡ y' → z ≡ z' →
    slack_from x y z ≡ slack_from x' y' z'
same_slack e g h = λ i. slack_from (e i) (g i) (h i)

module _ (f : FunctionData) (m : ℕ) where
  -- m times a value, m as a sum
  split : {x : ℤ} {i a : ℕ} (u r : ℕ) → u + r ≡ m → IsAtMultiple f m x i a →
      x ≡ pos (u + r) *ℤ at f.value a
  split {a} u r whole g = g.is ∙ ap (λ n. pos n *ℤ at f.value a) (sym whole)

  on_vertex : {i j k a b : ℕ} {x y z : ℤ} → IsAtMultiple f m x i a → IsAtMultiple f m y j b →
      IsAtMultiple f m z k (a + b) → IsFromFace f m i j (slack_from x y z)
  on_vertex {a} {b} g h t =
      vertex a b g.place h.place
      (same_slack g.is h.is t.is ∙ vertex_z m (at f.value a) (at f.value b) (at f.value (a + b)))

  on_horizontal : {i j k a b r : ℕ} {x y z : ℤ} → IsOnLine f m x i a r → IsAtMultiple f m y j b →
      IsOnLine f m z k (a + b) r → IsFromFace f m i j (slack_from x y z)
  on_horizontal {a} {b} {r} g h t =
      let u = m - r in
      let whole : u + r ≡ m = omega (arith, g.within) in
      horizontal a b u r whole g.place h.place
      (same_slack (g.is u whole) (split u r whole h) (t.is u whole)
      ∙ horizontal_z u r (at f.right a) (at f.left (a + 1)) (at f.value b) (at f.right (a + b))
      (at f.left (a + b + 1)))

  on_vertical : {i j k a b s : ℕ} {x y z : ℤ} → IsAtMultiple f m x i a → IsOnLine f m y j b s →
      IsOnLine f m z k (a + b) s → IsFromFace f m i j (slack_from x y z)
  on_vertical {a} {b} {s} g h t =
      let v = m - s in
      let whole : v + s ≡ m = omega (arith, h.within) in
      vertical a b v s whole g.place h.place
      (same_slack (split v s whole g) (h.is v whole) (t.is v whole)
      ∙ vertical_z v s (at f.value a) (at f.right b) (at f.left (b + 1)) (at f.right (a + b))
      (at f.left (a + b + 1)))

  on_diagonal : {i j k a b r s : ℕ} {x y z : ℤ} → r + s ≡ m → IsOnLine f m x i a r →
      IsOnLine f m y j b s → IsAtMultiple f m z k (a + b + 1) →
      IsFromFace f m i j (slack_from x y z)
  on_diagonal {a} {b} {r} {s} whole g h t =
      diagonal a b r s whole g.place h.place
      (same_slack (g.is s (omega arith)) (h.is r whole) (split r s whole t)
      ∙ diagonal_z r s (at f.right a) (at f.left (a + 1)) (at f.right b) (at f.left (b + 1))
      (at f.value (a + b + 1)))

  on_lower : {i j k a b r s : ℕ} {x y z : ℤ} → IsOnLine f m x i a r → IsOnLine f m y j b s →
      IsOnLine f m z k (a + b) (r + s) → IsFromFace f m i j (slack_from x y z)
  on_lower {a} {b} {r} {s} g h t =
      let w = m - (r + s) in
      let whole : w + (r + s) ≡ m = omega (arith, t.within) in
      lower a b w r s (omega arith) g.place h.place
      (same_slack (g.is (w + s) (omega arith)) (h.is (w + r) (omega arith)) (t.is w whole)
      ∙ lower_z w r s (at f.right a) (at f.left (a + 1)) (at f.right b) (at f.left (b + 1))
      (at f.right (a + b)) (at f.left (a + b + 1)))

  -- t is what the rests r and s exceed m by together
  on_upper : {i j k a b r s t : ℕ} {x y z : ℤ} → t + m ≡ r + s → IsOnLine f m x i a r →
      IsOnLine f m y j b s → IsOnLine f m z k (a + b + 1) t → IsFromFace f m i j (slack_from x y z)
  on_upper {a} {b} {r} {s} {t} over g h sum =
      let u = m - s in
      let v = m - r in
      let u_whole : u + s ≡ m = omega (arith, h.within) in
      let v_whole : v + r ≡ m = omega (arith, g.within) in
      let r_is : r ≡ u + t = omega arith in
      let s_is : s ≡ v + t = omega arith in
      upper a b u v t (omega arith) (g.place ∙ ap (λ n. a * m + n) r_is)
      (h.place ∙ ap (λ n. b * m + n) s_is)
      (same_slack (g.is v v_whole ∙ ap (between f a v) r_is)
      (h.is u u_whole ∙ ap (between f b u) s_is) (sum.is (u + v) (omega arith))
      ∙ upper_z u v t (at f.right a) (at f.left (a + 1)) (at f.right b) (at f.left (b + 1))
      (at f.right (a + b + 1)) (at f.left (a + b + 1 + 1)))

-- ---- a limit or the value at a sum

module _ (f : FunctionData) (m : ℕ) (some : 0 < m) where
  right_sum : {i j a b r s : ℕ} {x y : ℤ} (k : ℕ) → IsOnLine f m x i a r → IsOnLine f m y j b s →
      k ≡ i + j → r + s < m + m → IsFromFace f m i j (slack_from x y (refined f f.right m k))
  right_sum {a} {b} {r} {s} k g h sum below =
      let first = g.place in
      let second = h.place in
      elim (cases_lt (r + s) m) [
        | inl low ↦ on_lower f m g h (right_on_line f m k (a + b) (r + s) (omega arith) low)
        | inr high ↦
            let t = r + s - m in
            let over : t + m ≡ r + s = omega arith in
            on_upper f m over g h (right_on_line f m k (a + b + 1) t (omega arith) (omega arith))
      ]

  left_sum : {i j a b r s : ℕ} {x y : ℤ} (k : ℕ) → IsOnLine f m x i a r → IsOnLine f m y j b s →
      k ≡ i + j → 0 < r + s → IsFromFace f m i j (slack_from x y (refined f f.left m k))
  left_sum {a} {b} {r} {s} k g h sum above =
      let first = g.place in
      let second = h.place in
      let r_low = g.within in
      let s_low = h.within in
      elim (cases_lt m (r + s)) [
        | inl high ↦
            let t = r + s - m in
            let over : t + m ≡ r + s = omega arith in
            on_upper f m over g h
            (left_on_line f m k (a + b + 1) t (omega arith) (omega arith) (omega arith))
        | inr low ↦ on_lower f m g h (left_on_line f m k (a + b) (r + s) (omega arith) above low)
      ]

  value_sum : {i j a b r s : ℕ} {x y : ℤ} (k : ℕ) → IsOnLine f m x i a r → IsOnLine f m y j b s →
      k ≡ i + j → 0 < r + s → r + s < m + m →
      IsFromFace f m i j (slack_from x y (refined f f.value m k))
  value_sum {a} {b} {r} {s} k g h sum above below =
      let first = g.place in
      let second = h.place in
      elim (cases_order (r + s) m) [
        | inl whole ↦
            on_diagonal f m whole g h (value_at_multiple f m k (a + b + 1) (omega arith) some)
        | inr other ↦ elim other [
          | inl low ↦
              on_lower f m g h (value_on_line f m k (a + b) (r + s) (omega arith) above low)
          | inr high ↦
              let t = r + s - m in
              let over : t + m ≡ r + s = omega arith in
              on_upper f m over g h
              (value_on_line f m k (a + b + 1) t (omega arith) (omega arith) (omega arith))
        ]
      ]

  -- ---- one of the two is a value

  right_above : {i a b r : ℕ} {x : ℤ} (j : ℕ) → IsOnLine f m x i a r → r < m → Place m j b →
      IsFromFace f m i j (slack_from x (refined f f.value m j) (refined f f.right m (i + j)))
  right_above {i} {a} {b} {r} j g below (at_multiple e) =
      let first = g.place in
      on_horizontal f m g (value_at_multiple f m j b e some)
      (right_on_line f m (i + j) (a + b) r (omega arith) below)
  right_above {i} {a} {b} {r} j g below (inside s v e whole v_some s_some) =
      right_sum (i + j) g (value_on_line f m j b s e s_some (omega arith)) refl (omega arith)

  left_above : {i a b r : ℕ} {x : ℤ} (j k : ℕ) → IsOnLine f m x i a r → 0 < r → k ≡ i + j →
      Place m j b → IsFromFace f m i j (slack_from x (refined f f.value m j) (refined f f.left m k))
  left_above {i} {a} {b} {r} j k g above sum (at_multiple e) =
      let first = g.place in
      on_horizontal f m g (value_at_multiple f m j b e some)
      (left_on_line f m k (a + b) r (omega arith) above g.within)
  left_above {i} {a} {b} {r} j k g above sum (inside s v e whole v_some s_some) =
      left_sum k g (value_on_line f m j b s e s_some (omega arith)) sum (omega arith)

  right_beside : {j a b s : ℕ} {y : ℤ} (i : ℕ) → IsOnLine f m y j b s → s < m → Place m i a →
      IsFromFace f m i j (slack_from (refined f f.value m i) y (refined f f.right m (i + j)))
  right_beside {j} {a} {b} {s} i h below (at_multiple e) =
      let second = h.place in
      on_vertical f m (value_at_multiple f m i a e some) h
      (right_on_line f m (i + j) (a + b) s (omega arith) below)
  right_beside {j} {a} {b} {s} i h below (inside r u e whole u_some r_some) =
      right_sum (i + j) (value_on_line f m i a r e r_some (omega arith)) h refl (omega arith)

  left_beside : {j a b s : ℕ} {y : ℤ} (i k : ℕ) → IsOnLine f m y j b s → 0 < s → k ≡ i + j →
      Place m i a → IsFromFace f m i j (slack_from (refined f f.value m i) y (refined f f.left m k))
  left_beside {j} {a} {b} {s} i k h above sum (at_multiple e) =
      let second = h.place in
      on_vertical f m (value_at_multiple f m i a e some) h
      (left_on_line f m k (a + b) s (omega arith) above h.within)
  left_beside {j} {a} {b} {s} i k h above sum (inside r u e whole u_some r_some) =
      left_sum k (value_on_line f m i a r e r_some (omega arith)) h sum (omega arith)

  -- both are
  values : {a b : ℕ} (i j : ℕ) → Place m i a → Place m j b →
      IsFromFace f m i j
      (slack_from (refined f f.value m i) (refined f f.value m j) (refined f f.value m (i + j)))
  values {a} {b} i j (at_multiple e) (at_multiple g) =
      on_vertex f m (value_at_multiple f m i a e some) (value_at_multiple f m j b g some)
      (value_at_multiple f m (i + j) (a + b) (omega arith) some)
  values {a} {b} i j (inside r u e whole u_some r_some) (at_multiple g) =
      on_horizontal f m (value_on_line f m i a r e r_some (omega arith))
      (value_at_multiple f m j b g some)
      (value_on_line f m (i + j) (a + b) r (omega arith) r_some (omega arith))
  values {a} {b} i j (at_multiple e) (inside s v g whole v_some s_some) =
      on_vertical f m (value_at_multiple f m i a e some)
      (value_on_line f m j b s g s_some (omega arith))
      (value_on_line f m (i + j) (a + b) s (omega arith) s_some (omega arith))
  values {a} {b} i j (inside r u e whole u_some r_some) (inside s v g sum v_some s_some) =
      value_sum (i + j) (value_on_line f m i a r e r_some (omega arith))
      (value_on_line f m j b s g s_some (omega arith)) refl (omega arith) (omega arith)

  -- ---- each corner of each face of the finer grid

  -- the limits at i from the right and at i + 1 from the left
  right_at : (i : ℕ) → IsOnLine f m (refined f f.right m i) i (i / m) (i % m)
  right_at i = right_on_line f m i (i / m) (i % m) (sym (div-add-mod' i m)) (mod-lt i some)

  left_at : (i : ℕ) → IsOnLine f m (refined f f.left m (i + 1)) (i + 1) (i / m) (i % m + 1)
  left_at i =
      let parts = div-add-mod' i m in
      let below = mod-lt i some in
      left_on_line f m (i + 1) (i / m) (i % m + 1) (omega arith) (omega arith) (omega arith)

  -- a limit of the slack from inside a face at its corner: a face of the function's own complex
  -- gives it, and for numbers that do not jump it is their slack at the corner; or there is no such
  -- corner
  pub data IsLimit (limit : Limits ℤ → ℤ) : Type 0 where
    at_point : (x y : ℕ) → IsFromFace f m x y (limit (limits_on f m)) →
        ((z : ℕ → ℤ) → limit (record { left = z; value = z; right = z })
        ≡ slack_from (z x) (z y) (z (x + y))) → IsLimit limit
    beyond : ((w : Limits ℤ) → limit w ≡ pos 0) → IsLimit limit

  same_sum : {k : ℕ} (x y : ℕ) → k ≡ x + y → (z : ℕ → ℤ) →
      slack_from (z x) (z y) (z k) ≡ slack_from (z x) (z y) (z (x + y))
  same_sum x y e z = ap (λ n. slack_from (z x) (z y) (z n)) e

  pub limit_at : (kind : FaceKind) (i j c : ℕ) → IsLimit (λ w. slack_at_corner w kind i j c)
  limit_at Vertex i j zero =
      at_point i j (values i j (place_of m i some) (place_of m j some)) (λ z. refl)
  limit_at Vertex i j (suc c) = beyond (λ w. refl)
  limit_at Horizontal i j zero =
      at_point i j (right_above j (right_at i) (mod-lt i some) (place_of m j some)) (λ z. refl)
  limit_at Horizontal i j (suc zero) =
      let sum : i + j + 1 ≡ i + 1 + j = omega arith in
      at_point (i + 1) j
      (left_above j (i + j + 1) (left_at i) (omega arith) sum (place_of m j some))
      (same_sum (i + 1) j sum)
  limit_at Horizontal i j (suc (suc c)) = beyond (λ w. refl)
  limit_at Vertical i j zero =
      at_point i j (right_beside i (right_at j) (mod-lt j some) (place_of m i some)) (λ z. refl)
  limit_at Vertical i j (suc zero) =
      let sum : i + j + 1 ≡ i + (j + 1) = omega arith in
      at_point i (j + 1)
      (left_beside i (i + j + 1) (left_at j) (omega arith) sum (place_of m i some))
      (same_sum i (j + 1) sum)
  limit_at Vertical i j (suc (suc c)) = beyond (λ w. refl)
  limit_at Diagonal i j zero =
      let sum : i + j + 1 ≡ i + 1 + j = omega arith in
      at_point (i + 1) j
      (value_sum (i + j + 1) (left_at i) (right_at j) sum (omega arith)
      (omega (arith, mod-lt i some, mod-lt j some))) (same_sum (i + 1) j sum)
  limit_at Diagonal i j (suc zero) =
      let sum : i + j + 1 ≡ i + (j + 1) = omega arith in
      at_point i (j + 1)
      (value_sum (i + j + 1) (right_at i) (left_at j) sum (omega arith)
      (omega (arith, mod-lt i some, mod-lt j some))) (same_sum i (j + 1) sum)
  limit_at Diagonal i j (suc (suc c)) = beyond (λ w. refl)
  limit_at Lower i j zero =
      at_point i j
      (right_sum (i + j) (right_at i) (right_at j) refl
      (omega (arith, mod-lt i some, mod-lt j some))) (λ z. refl)
  limit_at Lower i j (suc zero) =
      let sum : i + j + 1 ≡ i + 1 + j = omega arith in
      at_point (i + 1) j (left_sum (i + j + 1) (left_at i) (right_at j) sum (omega arith))
      (same_sum (i + 1) j sum)
  limit_at Lower i j (suc (suc zero)) =
      let sum : i + j + 1 ≡ i + (j + 1) = omega arith in
      at_point i (j + 1) (left_sum (i + j + 1) (right_at i) (left_at j) sum (omega arith))
      (same_sum i (j + 1) sum)
  limit_at Lower i j (suc (suc (suc c))) = beyond (λ w. refl)
  limit_at Upper i j zero =
      let sum : i + j + 1 ≡ i + 1 + j = omega arith in
      at_point (i + 1) j
      (right_sum (i + j + 1) (left_at i) (right_at j) sum
      (omega (arith, mod-lt i some, mod-lt j some))) (same_sum (i + 1) j sum)
  limit_at Upper i j (suc zero) =
      let sum : i + j + 1 ≡ i + (j + 1) = omega arith in
      at_point i (j + 1)
      (right_sum (i + j + 1) (right_at i) (left_at j) sum
      (omega (arith, mod-lt i some, mod-lt j some))) (same_sum i (j + 1) sum)
  limit_at Upper i j (suc (suc zero)) =
      let sum : i + j + 1 + 1 ≡ i + 1 + (j + 1) = omega arith in
      at_point (i + 1) (j + 1)
      (left_sum (i + j + 1 + 1) (left_at i) (left_at j) sum (omega arith))
      (same_sum (i + 1) (j + 1) sum)
  limit_at Upper i j (suc (suc (suc c))) = beyond (λ w. refl)
