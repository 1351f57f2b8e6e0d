-- An additive face of a continuous function is tight on its closure, on every grid.
use Rattle.std.proofs.Common.{◌≡◌, ℕ, zero, suc, ◌+◌, ◌-◌, ◌*◌, ◌%◌, ◌<◌, ℤ, pos, ◌+ℤ◌, ◌*ℤ◌, [], ◌∷◌, refl, ap, ap₂, sym, ◌∙◌, arith}
use Rattle.std.proofs.Math.Nat.{add-zero, add-mod}
use Rattle.gj_lemmas.proofs.Quotients.{same_at_remainder}
use Rattle.gj_lemmas.proofs.Ring.{by_ring, ring}
use Rattle.gj_lemmas.proofs.Integers.{weighted_sum_z, first_only_z, second_only_z}
use Rattle.gj_shape.specs.Additive.{IsTight, IsTightOnGrid, IsAdditive, IsInFace, IsInClosure}
use Rattle.gj_shape.specs.FunctionData.{FunctionData, IsWithinBounds, IsContinuous, at}
use Rattle.gj_shape.specs.Table.{table}
use Rattle.gj_shape.specs.declared.faces.FaceKind.{FaceKind}
use Rattle.gj_shape.specs.declared.faces.FaceKind.TheVariants.{Vertex, Horizontal, Vertical, Diagonal, Lower, Upper}
use Rattle.gj_shape.proofs.TableLemmas.{table_at, table_between, table_period, left_is_value, right_is_value}

-- ---- the table of a continuous function between two values

-- at the place a m + r, from one multiple of 1/order to the next, both among them
pub value_at_place : (f : FunctionData) (m i a u r : ℕ) → IsContinuous f → 0 < m → i ≡ a * m + r →
    u + r ≡ m →
    table f m i ≡ pos u *ℤ at f.value a +ℤ pos r *ℤ at f.value (a + 1)
value_at_place f m i a u zero continuous some e whole =
    ap (table f m) (e ∙ add-zero (a * m)) ∙ table_at f m a some
    ∙ ap (λ n. pos n *ℤ at f.value a) (sym whole ∙ add-zero u)
    ∙ first_only_z u (at f.value a) (at f.value (a + 1))
value_at_place f m i a zero (suc r) continuous some e whole =
    let next : i ≡ (a + 1) * m = omega arith in
    let rest : m ≡ suc r = omega arith in
    ap (table f m) next ∙ table_at f m (a + 1) some
    ∙ ap (λ n. pos n *ℤ at f.value (a + 1)) rest
    ∙ second_only_z (suc r) (at f.value a) (at f.value (a + 1))
value_at_place f m i a (suc u) (suc r) continuous some e whole =
    let weight : m - suc r ≡ suc u = omega arith in
    ap (table f m) e ∙ table_between f m a (suc r) (omega arith) (omega arith)
    ∙ ap (λ n. pos n *ℤ at f.right a +ℤ pos (suc r) *ℤ at f.left (a + 1)) weight
    ∙ ap₂ (λ x y. pos (suc u) *ℤ x +ℤ pos (suc r) *ℤ y) (right_is_value f a continuous)
    (left_is_value f (a + 1) continuous)

-- at a multiple of 1/order
place_value : (f : FunctionData) (m i a : ℕ) → 0 < m → i ≡ a * m →
    table f m i ≡ pos m *ℤ at f.value a
place_value f m i a some e = ap (table f m) e ∙ table_at f m a some

-- ---- sums by weights, over plain numbers

-- three numbers in place of what they are
sum_by : {x x' y y' z z' : ℤ} → x ≡ x' → y ≡ y' → z ≡ z' → x' +ℤ y' ≡ z' → x +ℤ y ≡ z
sum_by e g h sum = ap₂ (λ v w. v +ℤ w) e g ∙ sum ∙ sym h

horizontal_z : (u r : ℕ) (x x' y t t' : ℤ) → x +ℤ y ≡ t → x' +ℤ y ≡ t' →
    (pos u *ℤ x +ℤ pos r *ℤ x') +ℤ pos (u + r) *ℤ y ≡ pos u *ℤ t +ℤ pos r *ℤ t'
horizontal_z u r x x' y t t' e g =
    let sum : (pos u *ℤ x +ℤ pos r *ℤ x') +ℤ pos (u + r) *ℤ y ≡ pos u *ℤ (x +ℤ y) +ℤ pos r
    *ℤ (x' +ℤ y) =
    by_ring (pos u ∷ pos r ∷ x ∷ x' ∷ y ∷ []) (search ring depth 20) refl in
    sum ∙ ap₂ (λ v w. pos u *ℤ v +ℤ pos r *ℤ w) e g

vertical_z : (u r : ℕ) (x y y' t t' : ℤ) → x +ℤ y ≡ t → x +ℤ y' ≡ t' →
    pos (u + r) *ℤ x +ℤ (pos u *ℤ y +ℤ pos r *ℤ y') ≡ pos u *ℤ t +ℤ pos r *ℤ t'
vertical_z u r x y y' t t' e g =
    let sum : pos (u + r) *ℤ x +ℤ (pos u *ℤ y +ℤ pos r *ℤ y') ≡ pos u *ℤ (x +ℤ y) +ℤ pos r
    *ℤ (x +ℤ y') =
    by_ring (pos u ∷ pos r ∷ x ∷ y ∷ y' ∷ []) (search ring depth 20) refl in
    sum ∙ ap₂ (λ v w. pos u *ℤ v +ℤ pos r *ℤ w) e g

diagonal_z : (r s : ℕ) (x x' y y' t : ℤ) → x' +ℤ y ≡ t → x +ℤ y' ≡ t →
    (pos s *ℤ x +ℤ pos r *ℤ x') +ℤ (pos r *ℤ y +ℤ pos s *ℤ y') ≡ pos (r + s) *ℤ t
diagonal_z r s x x' y y' t e g =
    let sum : (pos s *ℤ x +ℤ pos r *ℤ x') +ℤ (pos r *ℤ y +ℤ pos s *ℤ y')
    ≡ pos r *ℤ (x' +ℤ y) +ℤ pos s *ℤ (x +ℤ y') =
    by_ring (pos r ∷ pos s ∷ x ∷ x' ∷ y ∷ y' ∷ []) (search ring depth 20) refl in
    let one : pos r *ℤ t +ℤ pos s *ℤ t ≡ pos (r + s) *ℤ t =
    by_ring (pos r ∷ pos s ∷ t ∷ []) (search ring depth 20) refl in
    sum ∙ ap₂ (λ v w. pos r *ℤ v +ℤ pos s *ℤ w) e g ∙ one

lower_z : (w r s : ℕ) (x x' y y' t t' : ℤ) → x +ℤ y ≡ t → x' +ℤ y ≡ t' → x +ℤ y' ≡ t' →
    (pos (w + s) *ℤ x +ℤ pos r *ℤ x') +ℤ (pos (w + r) *ℤ y +ℤ pos s *ℤ y')
    ≡ pos w *ℤ t +ℤ pos (r + s) *ℤ t'
lower_z w r s x x' y y' t t' e g h =
    let sum : (pos (w + s) *ℤ x +ℤ pos r *ℤ x') +ℤ (pos (w + r) *ℤ y +ℤ pos s *ℤ y')
    ≡ pos w *ℤ (x +ℤ y) +ℤ (pos r *ℤ (x' +ℤ y) +ℤ pos s *ℤ (x +ℤ y')) =
    by_ring (pos w ∷ pos r ∷ pos s ∷ x ∷ x' ∷ y ∷ y' ∷ []) (search ring depth 20) refl in
    let one : pos r *ℤ t' +ℤ pos s *ℤ t' ≡ pos (r + s) *ℤ t' =
    by_ring (pos r ∷ pos s ∷ t' ∷ []) (search ring depth 20) refl in
    sum ∙ ap₂ (λ v n. pos w *ℤ v +ℤ n) e (ap₂ (λ v n. pos r *ℤ v +ℤ pos s *ℤ n) g h ∙ one)

upper_z : (u v w : ℕ) (x x' y y' t t' : ℤ) → x' +ℤ y ≡ t → x +ℤ y' ≡ t → x' +ℤ y' ≡ t' →
    (pos u *ℤ x +ℤ pos (v + w) *ℤ x') +ℤ (pos v *ℤ y +ℤ pos (u + w) *ℤ y')
    ≡ pos (u + v) *ℤ t +ℤ pos w *ℤ t'
upper_z u v w x x' y y' t t' e g h =
    let sum : (pos u *ℤ x +ℤ pos (v + w) *ℤ x') +ℤ (pos v *ℤ y +ℤ pos (u + w) *ℤ y')
    ≡ (pos u *ℤ (x +ℤ y') +ℤ pos v *ℤ (x' +ℤ y)) +ℤ pos w *ℤ (x' +ℤ y') =
    by_ring (pos u ∷ pos v ∷ pos w ∷ x ∷ x' ∷ y ∷ y' ∷ []) (search ring depth 20) refl in
    let one : pos u *ℤ t +ℤ pos v *ℤ t ≡ pos (u + v) *ℤ t =
    by_ring (pos u ∷ pos v ∷ t ∷ []) (search ring depth 20) refl in
    sum ∙ ap₂ (λ n z. n +ℤ pos w *ℤ z) (ap₂ (λ n z. pos u *ℤ n +ℤ pos v *ℤ z) g e ∙ one) h

-- ---- each face, in the plane

-- a tight pair, with its sum spelled otherwise
corner : (f : FunctionData) (x y z : ℕ) → IsTight f x y → z ≡ x + y →
    at f.value x +ℤ at f.value y ≡ at f.value z
corner f x y z tight e = tight ∙ ap (at f.value) (sym e)

pub tight_in_face : (f : FunctionData) (m : ℕ) (kind : FaceKind) (a b i j : ℕ) → IsContinuous f →
    0 < m →
    IsAdditive (IsTight f) kind a b → IsInFace m kind a b i j → IsTightOnGrid f m i j
tight_in_face f m Vertex a b i j continuous some h inside =
    let first = inside.0 in
    let second = inside.1 in
    sum_by (place_value f m i a some first) (place_value f m j b some second)
    (place_value f m (i + j) (a + b) some (omega arith))
    (weighted_sum_z m _ _ _ (h 0 (0, 0) (omega arith)))
tight_in_face f m Horizontal a b i j continuous some h inside =
    let low = inside.0 in
    let high = inside.1 in
    let second = inside.2 in
    let r = i - a * m in
    let u = m - r in
    let place : i ≡ a * m + r = omega arith in
    let whole : u + r ≡ m = omega arith in
    sum_by (value_at_place f m i a u r continuous some place whole)
    (place_value f m j b some second ∙ ap (λ n. pos n *ℤ at f.value b) (sym whole))
    (value_at_place f m (i + j) (a + b) u r continuous some (omega arith) whole)
    (horizontal_z u r _ _ _ _ _ (h 0 (0, 0) (omega arith))
    (corner f (a + 1) b (a + b + 1) (h 1 (0, 0) (omega arith)) (omega arith)))
tight_in_face f m Vertical a b i j continuous some h inside =
    let first = inside.0 in
    let low = inside.1 in
    let high = inside.2 in
    let r = j - b * m in
    let u = m - r in
    let place : j ≡ b * m + r = omega arith in
    let whole : u + r ≡ m = omega arith in
    sum_by (place_value f m i a some first ∙ ap (λ n. pos n *ℤ at f.value a) (sym whole))
    (value_at_place f m j b u r continuous some place whole)
    (value_at_place f m (i + j) (a + b) u r continuous some (omega arith) whole)
    (vertical_z u r _ _ _ _ _ (h 0 (0, 0) (omega arith))
    (corner f a (b + 1) (a + b + 1) (h 1 (0, 0) (omega arith)) (omega arith)))
tight_in_face f m Diagonal a b i j continuous some h inside =
    let low = inside.0 in
    let left = inside.1 in
    let sum = inside.2 in
    let r = i - a * m in
    let s = j - b * m in
    let first : i ≡ a * m + r = omega arith in
    let second : j ≡ b * m + s = omega arith in
    let whole : r + s ≡ m = omega arith in
    sum_by (value_at_place f m i a s r continuous some first (omega arith))
    (value_at_place f m j b r s continuous some second whole)
    (place_value f m (i + j) (a + b + 1) some sum
    ∙ ap (λ n. pos n *ℤ at f.value (a + b + 1)) (sym whole))
    (diagonal_z r s _ _ _ _ _
    (corner f (a + 1) b (a + b + 1) (h 0 (0, 0) (omega arith)) (omega arith))
    (corner f a (b + 1) (a + b + 1) (h 1 (0, 0) (omega arith)) (omega arith)))
tight_in_face f m Lower a b i j continuous some h inside =
    let low = inside.0 in
    let left = inside.1 in
    let high = inside.2 in
    let r = i - a * m in
    let s = j - b * m in
    let w = m - (r + s) in
    let first : i ≡ a * m + r = omega arith in
    let second : j ≡ b * m + s = omega arith in
    let whole : w + r + s ≡ m = omega arith in
    sum_by (value_at_place f m i a (w + s) r continuous some first (omega arith))
    (value_at_place f m j b (w + r) s continuous some second whole)
    (value_at_place f m (i + j) (a + b) w (r + s) continuous some (omega arith) (omega arith))
    (lower_z w r s _ _ _ _ _ _ (h 0 (0, 0) (omega arith))
    (corner f (a + 1) b (a + b + 1) (h 1 (0, 0) (omega arith)) (omega arith))
    (corner f a (b + 1) (a + b + 1) (h 2 (0, 0) (omega arith)) (omega arith)))
tight_in_face f m Upper a b i j continuous some h inside =
    let high = inside.0 in
    let right = inside.1 in
    let low = inside.2 in
    let u = (a + 1) * m - i in
    let v = (b + 1) * m - j in
    let w = m - (u + v) in
    let whole : u + v + w ≡ m = omega arith in
    let first : i ≡ a * m + (v + w) = omega arith in
    let second : j ≡ b * m + (u + w) = omega arith in
    sum_by (value_at_place f m i a u (v + w) continuous some first (omega arith))
    (value_at_place f m j b v (u + w) continuous some second (omega arith))
    (value_at_place f m (i + j) (a + b + 1) (u + v) w continuous some (omega arith) whole)
    (upper_z u v w _ _ _ _ _ _
    (corner f (a + 1) b (a + b + 1) (h 0 (0, 0) (omega arith)) (omega arith))
    (corner f a (b + 1) (a + b + 1) (h 1 (0, 0) (omega arith)) (omega arith))
    (corner f (a + 1) (b + 1) (a + b + 1 + 1) (h 2 (0, 0) (omega arith)) (omega arith)))

-- ---- modulo the order of the grid

sum_remainder : (x y i j n : ℕ) → x % n ≡ i % n → y % n ≡ j % n → (x + y) % n ≡ (i + j) % n
sum_remainder x y i j n e g = add-mod x y n ∙ ap₂ (λ u v. (u + v) % n) e g ∙ sym (add-mod i j n)

pub tight_on_grid : (f : FunctionData) (m : ℕ) (kind : FaceKind) (a b i j : ℕ) → IsWithinBounds f →
    IsContinuous f →
    0 < m → IsAdditive (IsTight f) kind a b → IsInClosure f m kind a b i j → IsTightOnGrid f m i j
tight_on_grid f m kind a b i j l continuous some h inside =
    let x = inside.0 in
    let y = inside.1 in
    let same = same_at_remainder (table f m) (f.order * m) (λ k. table_period f m k some l) in
    sum_by (sym (same x i inside.2)) (sym (same y j inside.3))
    (sym (same (x + y) (i + j) (sum_remainder x y i j (f.order * m) inside.2 inside.3)))
    (tight_in_face f m kind a b x y continuous some h inside.4)
