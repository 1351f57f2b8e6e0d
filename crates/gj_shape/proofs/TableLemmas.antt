-- Tables of functions, and limits of continuous functions.
use Rattle.std.proofs.Common.{◌≡◌, ℕ, zero, suc, ◌+◌, ◌-◌, ◌*◌, ◌/◌, ◌%◌, ◌<◌, ℤ, pos, ◌+ℤ◌, ◌*ℤ◌, List, [], ◌∷◌, length, map, sym, ap, ap₂, subst, ◌∙◌, refl, arith}
use Rattle.std.proofs.lemmas.Nat.{div-mul-add, mod-mul-add}
use Rattle.std.proofs.Math.Nat.{div-one, mod-one, mul-div_left, mul-mod_left, div-add-mod', mod-lt, zero-mul, mul-lt-mul_of_pos_right}
use Rattle.gj_lemmas.proofs.Integers.{one_mul_z}
use Rattle.gj_lemmas.proofs.Quotients.{parts_of_place}
use Rattle.gj_lemmas.proofs.Ring.{by_ring, ring}
use Rattle.gj_shape.proofs.AtLemmas.{at_plus_length}
use Rattle.gj_shape.specs.FunctionData.{FunctionData, IsWithinBounds, IsPiecewise, IsContinuous, at}
use Rattle.gj_shape.specs.Table.{table, entry}
use Rattle.gj_shape.specs.Faces.{corners_of, slack_from, limits_of}
use Rattle.gj_shape.specs.declared.faces.FaceKind.{FaceKind}
use Rattle.gj_shape.specs.declared.faces.FaceKind.TheVariants.{Vertex, Horizontal, Vertical, Diagonal, Lower, Upper}

-- the table of the function's own order has its values
pub table_of_order : (f : FunctionData) (i : ℕ) → table f 1 i ≡ at f.value i
unfolding table
table_of_order f i = ap (λ a. entry f 1 a (i % 1)) (div-one i) ∙ ap (λ r. entry f 1 i r) (mod-one i)
    ∙ one_mul_z (at f.value i)

-- the table at a multiple of 1/order
pub table_at : (f : FunctionData) (m a : ℕ) → 0 < m → table f m (a * m) ≡ pos m *ℤ at f.value a
unfolding table
table_at f m a some =
    ap (λ k. entry f m k (a * m % m)) (mul-div_left a some)
    ∙ ap (λ r. entry f m a r) (mul-mod_left a m)

pub entry_between : (f : FunctionData) (m a r : ℕ) → 0 < r →
    entry f m a r ≡ pos (m - r) *ℤ at f.right a +ℤ pos r *ℤ at f.left (a + 1)
entry_between f m a zero some = absurd (omega arith)
entry_between f m a (suc r) some = refl

-- the table between two neighbouring multiples of 1/order
pub table_between : (f : FunctionData) (m a r : ℕ) → 0 < r → r < m →
    table f m (a * m + r) ≡ pos (m - r) *ℤ at f.right a +ℤ pos r *ℤ at f.left (a + 1)
unfolding table
table_between f m a r some below =
    ap (λ k. entry f m k ((a * m + r) % m)) (div-mul-add a m r below)
    ∙ ap (λ k. entry f m a k) (mod-mul-add a m r below)
    ∙ entry_between f m a r some

-- the table at a place that is given by its parts
pub table_parts : (f : FunctionData) (m i a r : ℕ) → i ≡ a * m + r → r < m →
    table f m i ≡ entry f m a r
unfolding table
table_parts f m i a r e below = let parts = parts_of_place i a m r e below in
    ap₂ (entry f m) parts.0 parts.1

pub at_plus_order : (xs : List ℤ) (i n : ℕ) → length xs ≡ n → at xs (i + n) ≡ at xs i
at_plus_order xs i n e = subst (λ (k : ℕ). at xs (i + k) ≡ at xs i) e (at_plus_length xs i)

pub entry_period : (f : FunctionData) (m a r : ℕ) → IsPiecewise f →
    entry f m (a + f.order) r ≡ entry f m a r
entry_period f m a zero h = ap (λ z. pos m *ℤ z) (at_plus_order f.value a f.order h.value_length)
entry_period f m a (suc r) h =
    let next : a + f.order + 1 ≡ a + 1 + f.order = omega arith in
    ap₂ (λ x y. pos (m - suc r) *ℤ x +ℤ pos (suc r) *ℤ y)
    (at_plus_order f.right a f.order h.right_length)
    (ap (at f.left) next ∙ at_plus_order f.left (a + 1) f.order h.left_length)

-- what goes by the two parts of a place has the order of the grid as a period
pub period_of_parts : (e : ℕ → ℕ → ℤ) (q m i : ℕ) → 0 < m → ((a r : ℕ) → e (a + q) r ≡ e a r) →
    e ((i + q * m) / m) ((i + q * m) % m) ≡ e (i / m) (i % m)
period_of_parts e q m i some step =
    let split = div-add-mod' i m in
    let parts = parts_of_place (i + q * m) (i / m + q) m (i % m) (omega arith) (mod-lt i some) in
    ap₂ e parts.0 parts.1 ∙ step (i / m) (i % m)

-- the table has the order of its grid as a period
pub period_of_table : (f : FunctionData) (m i : ℕ) → 0 < m → IsPiecewise f →
    table f m (i + f.order * m) ≡ table f m i
unfolding table
period_of_table f m i some h =
    period_of_parts (entry f m) f.order m i some (λ a r. entry_period f m a r h)

-- a function within the limits is one
pub pieces_of : {f : FunctionData} → IsWithinBounds f → IsPiecewise f
pieces_of h = record {
  order_low = h.order_low;
  place_low = h.place_low;
  place_high = h.place_high;
  scale_low = h.scale_low;
  left_length = h.left_length;
  value_length = h.value_length;
  right_length = h.right_length;
}

pub table_period : (f : FunctionData) (m i : ℕ) → 0 < m → IsWithinBounds f →
    table f m (i + f.order * m) ≡ table f m i
table_period f m i some h = period_of_table f m i some (pieces_of h)

value_scaled_z : (d m : ℕ) (x : ℤ) → pos (d * m) *ℤ x ≡ pos m *ℤ (pos d *ℤ x)
value_scaled_z d m x = by_ring (pos d ∷ pos m ∷ x ∷ []) (search ring depth 20) refl

between_scaled_z : (u s m : ℕ) (x y : ℤ) →
    pos (u * m) *ℤ x +ℤ pos (s * m) *ℤ y ≡ pos m *ℤ (pos u *ℤ x +ℤ pos s *ℤ y)
between_scaled_z u s m x y =
    by_ring (pos u ∷ pos s ∷ pos m ∷ x ∷ y ∷ []) (search ring depth 20) refl

entry_scaled : (f : FunctionData) (d m a r : ℕ) → 0 < m → r < d →
    entry f (d * m) a (r * m) ≡ pos m *ℤ entry f d a r
entry_scaled f d m a zero some below = ap (entry f (d * m) a) (zero-mul m)
    ∙ value_scaled_z d m (at f.value a)
entry_scaled f d m a (suc r) some below =
    let u = d - suc r in
    let whole : d ≡ u + suc r = omega arith in
    let grid : d * m ≡ u * m + suc r * m = ap (λ n. n * m) whole ∙ omega arith in
    let rest : d * m - suc r * m ≡ u * m = omega arith in
    entry_between f (d * m) a (suc r * m) (omega arith)
    ∙ ap (λ n. pos n *ℤ at f.right a +ℤ pos (suc r * m) *ℤ at f.left (a + 1)) rest
    ∙ between_scaled_z u (suc r) m (at f.right a) (at f.left (a + 1))

-- a finer grid has the same values
pub table_finer : (f : FunctionData) (d m j : ℕ) → 0 < d → 0 < m →
    table f (d * m) (j * m) ≡ pos m *ℤ table f d j
table_finer f d m j d_some m_some =
    let parts : j ≡ j / d * d + j % d = sym (div-add-mod' j d) in
    let below : j % d < d = mod-lt j d_some in
    let finer : j * m ≡ j / d * (d * m) + j % d * m = ap (λ n. n * m) parts ∙ omega arith in
    table_parts f (d * m) (j * m) (j / d) (j % d * m) finer (mul-lt-mul_of_pos_right below m_some)
    ∙ entry_scaled f d m (j / d) (j % d) m_some below
    ∙ ap (λ z. pos m *ℤ z) (sym (table_parts f d j (j / d) (j % d) parts below))

-- the limits of a continuous function are its values
pub left_is_value : (f : FunctionData) (i : ℕ) → IsContinuous f → at f.left i ≡ at f.value i
left_is_value f i h = ap (λ xs. at xs i) h.0

pub right_is_value : (f : FunctionData) (i : ℕ) → IsContinuous f → at f.right i ≡ at f.value i
right_is_value f i h = ap (λ xs. at xs i) h.1

same_two : {x x' y y' : ℤ} → x ≡ x' → y ≡ y' → x ∷ y ∷ [] ≡ x' ∷ y' ∷ []
same_two e g = cc

same_three : {x x' y y' z z' : ℤ} → x ≡ x' → y ≡ y' → z ≡ z' → x ∷ y ∷ z ∷ [] ≡ x' ∷ y' ∷ z' ∷ []
same_three e g h = cc

-- the slack at a corner, from the values
abbrev pub slack_at : FunctionData → ℕ × ℕ → ℤ
slack_at f corner = slack_from (at f.value corner.0) (at f.value corner.1)
    (at f.value (corner.0 + corner.1))

-- it is the slack from what equals these values
slack_is : (f : FunctionData) (x y z : ℤ) (i j k : ℕ) → x ≡ at f.value i → y ≡ at f.value j →
    z ≡ at f.value k → k ≡ i + j →
    slack_from x y z ≡ slack_at f (i, j)
slack_is f x y z i j k e g h sum =
    ap (λ t. slack_from t y z) e ∙ ap (λ t. slack_from (at f.value i) t z) g
    ∙ ap (λ t. slack_from (at f.value i) (at f.value j) t) (h ∙ ap (at f.value) sum)

-- the limits of the slack of a continuous function are the slacks at the corners
pub limits_are_slacks : (f : FunctionData) (kind : FaceKind) (a b : ℕ) → IsContinuous f →
    limits_of f kind a b ≡ map (slack_at f) (corners_of kind a b)
limits_are_slacks f Vertex a b h = refl
limits_are_slacks f Horizontal a b h =
    let l = λ (i : ℕ). left_is_value f i h in
    let r = λ (i : ℕ). right_is_value f i h in
    same_two (slack_is f _ _ _ a b _ (r a) refl (r (a + b)) refl)
    (slack_is f _ _ _ (a + 1) b _ (l (a + 1)) refl (l (a + b + 1)) (omega arith))
limits_are_slacks f Vertical a b h =
    let l = λ (i : ℕ). left_is_value f i h in
    let r = λ (i : ℕ). right_is_value f i h in
    same_two (slack_is f _ _ _ a b _ refl (r b) (r (a + b)) refl)
    (slack_is f _ _ _ a (b + 1) _ refl (l (b + 1)) (l (a + b + 1)) (omega arith))
limits_are_slacks f Diagonal a b h =
    let l = λ (i : ℕ). left_is_value f i h in
    let r = λ (i : ℕ). right_is_value f i h in
    same_two (slack_is f _ _ _ (a + 1) b (a + b + 1) (l (a + 1)) (r b) refl (omega arith))
    (slack_is f _ _ _ a (b + 1) (a + b + 1) (r a) (l (b + 1)) refl (omega arith))
limits_are_slacks f Lower a b h =
    let l = λ (i : ℕ). left_is_value f i h in
    let r = λ (i : ℕ). right_is_value f i h in
    same_three (slack_is f _ _ _ a b _ (r a) (r b) (r (a + b)) refl)
    (slack_is f _ _ _ (a + 1) b _ (l (a + 1)) (r b) (l (a + b + 1)) (omega arith))
    (slack_is f _ _ _ a (b + 1) _ (r a) (l (b + 1)) (l (a + b + 1)) (omega arith))
limits_are_slacks f Upper a b h =
    let l = λ (i : ℕ). left_is_value f i h in
    let r = λ (i : ℕ). right_is_value f i h in
    same_three (slack_is f _ _ _ (a + 1) b _ (l (a + 1)) (r b) (r (a + b + 1)) (omega arith))
    (slack_is f _ _ _ a (b + 1) _ (r a) (l (b + 1)) (r (a + b + 1)) (omega arith))
    (slack_is f _ _ _ (a + 1) (b + 1) _ (l (a + 1)) (l (b + 1)) (l (a + b + 1 + 1)) (omega arith))
