-- On each face of a grid the slack is the sum of its limits at the corners, each with a weight.
use Rattle.std.proofs.Common.{◌≡◌, ℕ, zero, suc, ◌+◌, ◌-◌, ◌*◌, ◌<◌, ◌≤◌, ℤ, pos, ◌+ℤ◌, ◌-ℤ◌, ◌*ℤ◌, List, [], ◌∷◌, length, refl, ap, ap₂, sym, ◌∙◌, arith}
use Rattle.gj_lemmas.proofs.Ring.{by_ring, ring}
use Rattle.gj_shape.specs.FunctionData.{FunctionData, at}
use Rattle.gj_shape.specs.Table.{table}
use Rattle.gj_shape.specs.Faces.{corners_of, limits_of}
use Rattle.gj_shape.specs.FirstViolation.{near, first_coordinates, second_coordinates}
use Rattle.gj_shape.specs.declared.faces.FaceKind.{FaceKind}
use Rattle.gj_shape.specs.declared.faces.FaceKind.TheVariants.{Vertex, Horizontal, Vertical, Diagonal, Lower, Upper}
use Rattle.gj_shape.proofs.TableLemmas.{table_at, table_between}
use Rattle.gj_theory.specs.NearCorners.{near_value}

-- the sum of numbers, each times its weight
abbrev pub weighted : List ℕ → List ℤ → ℤ
weighted [] xs = pos 0
weighted (w ∷ ws) [] = pos 0
weighted (w ∷ ws) (x ∷ xs) = pos w *ℤ x +ℤ weighted ws xs

-- ---- the corners of a face

-- a face has one limit for each corner
pub limit_count : (f : FunctionData) (kind : FaceKind) (a b : ℕ) →
    length (limits_of f kind a b) ≡ length (corners_of kind a b)
limit_count f Vertex a b = refl
limit_count f Horizontal a b = refl
limit_count f Vertical a b = refl
limit_count f Diagonal a b = refl
limit_count f Lower a b = refl
limit_count f Upper a b = refl

-- a face has one to three corners
pub some_corners : (kind : FaceKind) (a b : ℕ) →
    (0 < length (corners_of kind a b)) × (length (corners_of kind a b) ≤ 3)
some_corners Vertex a b = (omega arith, omega arith)
some_corners Horizontal a b = (omega arith, omega arith)
some_corners Vertical a b = (omega arith, omega arith)
some_corners Diagonal a b = (omega arith, omega arith)
some_corners Lower a b = (omega arith, omega arith)
some_corners Upper a b = (omega arith, omega arith)

-- ---- the table at a place that is given by its parts

-- at a multiple of 1/order
pub table_at_place : (f : FunctionData) (m i a : ℕ) → i ≡ a * m → 0 < m →
    table f m i ≡ pos m *ℤ at f.value a
table_at_place f m i a e some = ap (table f m) e ∙ table_at f m a some

-- between two neighbouring multiples, from the weights of both
pub table_inside : (f : FunctionData) (m i a u r : ℕ) → i ≡ a * m + r → u + r ≡ m → 0 < u → 0 < r →
    table f m i ≡ pos u *ℤ at f.right a +ℤ pos r *ℤ at f.left (a + 1)
table_inside f m i a u r e whole u_some r_some =
    let weight : m - r ≡ u = omega arith in
    ap (table f m) e ∙ table_between f m a r r_some (omega arith)
    ∙ ap (λ n. pos n *ℤ at f.right a +ℤ pos r *ℤ at f.left (a + 1)) weight

-- three entries of the table in place of what they are
slack_by : (s : ℤ) {x x' y y' z z' : ℤ} → x ≡ x' → y ≡ y' → z ≡ z' → x' +ℤ y' ≡ z' +ℤ s →
    x +ℤ y ≡ z +ℤ s
slack_by s e g h sum = ap₂ (λ v w. v +ℤ w) e g ∙ sum ∙ ap (λ w. w +ℤ s) (sym h)

-- ---- the weights of the corners, over plain numbers

vertex_z : (m : ℕ) (x y t : ℤ) →
    pos m *ℤ x +ℤ pos m *ℤ y ≡ pos m *ℤ t +ℤ weighted (m ∷ []) ((x +ℤ y -ℤ t) ∷ [])
vertex_z m x y t = by_ring (pos m ∷ x ∷ y ∷ t ∷ []) (search ring depth 20) refl

horizontal_z : (u r : ℕ) (x x' y t t' : ℤ) →
    (pos u *ℤ x +ℤ pos r *ℤ x') +ℤ pos (u + r) *ℤ y
    ≡ (pos u *ℤ t +ℤ pos r *ℤ t') +ℤ weighted (u ∷ r ∷ []) ((x +ℤ y -ℤ t) ∷ (x' +ℤ y -ℤ t') ∷ [])
horizontal_z u r x x' y t t' =
    by_ring (pos u ∷ pos r ∷ x ∷ x' ∷ y ∷ t ∷ t' ∷ []) (search ring depth 20) refl

vertical_z : (u r : ℕ) (x y y' t t' : ℤ) →
    pos (u + r) *ℤ x +ℤ (pos u *ℤ y +ℤ pos r *ℤ y')
    ≡ (pos u *ℤ t +ℤ pos r *ℤ t') +ℤ weighted (u ∷ r ∷ []) ((x +ℤ y -ℤ t) ∷ (x +ℤ y' -ℤ t') ∷ [])
vertical_z u r x y y' t t' =
    by_ring (pos u ∷ pos r ∷ x ∷ y ∷ y' ∷ t ∷ t' ∷ []) (search ring depth 20) refl

diagonal_z : (r s : ℕ) (x x' y y' t : ℤ) →
    (pos s *ℤ x +ℤ pos r *ℤ x') +ℤ (pos r *ℤ y +ℤ pos s *ℤ y')
    ≡ pos (r + s) *ℤ t +ℤ weighted (r ∷ s ∷ []) ((x' +ℤ y -ℤ t) ∷ (x +ℤ y' -ℤ t) ∷ [])
diagonal_z r s x x' y y' t =
    by_ring (pos r ∷ pos s ∷ x ∷ x' ∷ y ∷ y' ∷ t ∷ []) (search ring depth 20) refl

lower_z : (w r s : ℕ) (x x' y y' t t' : ℤ) →
    (pos (w + s) *ℤ x +ℤ pos r *ℤ x') +ℤ (pos (w + r) *ℤ y +ℤ pos s *ℤ y')
    ≡ (pos w *ℤ t +ℤ pos (r + s) *ℤ t')
    +ℤ weighted (w ∷ r ∷ s ∷ []) ((x +ℤ y -ℤ t) ∷ (x' +ℤ y -ℤ t') ∷ (x +ℤ y' -ℤ t') ∷ [])
lower_z w r s x x' y y' t t' =
    by_ring (pos w ∷ pos r ∷ pos s ∷ x ∷ x' ∷ y ∷ y' ∷ t ∷ t' ∷ [])
    (search ring depth 30 fits 4000) refl

upper_z : (u v w : ℕ) (x x' y y' t t' : ℤ) →
    (pos v *ℤ x +ℤ pos (u + w) *ℤ x') +ℤ (pos u *ℤ y +ℤ pos (v + w) *ℤ y')
    ≡ (pos (u + v) *ℤ t +ℤ pos w *ℤ t')
    +ℤ weighted (u ∷ v ∷ w ∷ []) ((x' +ℤ y -ℤ t) ∷ (x +ℤ y' -ℤ t) ∷ (x' +ℤ y' -ℤ t') ∷ [])
upper_z u v w x x' y y' t t' =
    by_ring (pos u ∷ pos v ∷ pos w ∷ x ∷ x' ∷ y ∷ y' ∷ t ∷ t' ∷ [])
    (search ring depth 30 fits 4000) refl

-- ---- the slack on each face

pub slack_on_vertex : (f : FunctionData) (m i j a b : ℕ) → i ≡ a * m → j ≡ b * m → 0 < m →
    table f m i +ℤ table f m j ≡ table f m (i + j) +ℤ weighted (m ∷ []) (limits_of f Vertex a b)
slack_on_vertex f m i j a b e g some =
    slack_by _ (table_at_place f m i a e some) (table_at_place f m j b g some)
    (table_at_place f m (i + j) (a + b) (omega arith) some)
    (vertex_z m (at f.value a) (at f.value b) (at f.value (a + b)))

pub slack_on_horizontal : (f : FunctionData) (m i j a b u r : ℕ) → i ≡ a * m + r → j ≡ b * m →
    u + r ≡ m →
    0 < u → 0 < r →
    table f m i +ℤ table f m j ≡ table f m (i + j) +ℤ weighted (u ∷ r ∷ [])
    (limits_of f Horizontal a b)
slack_on_horizontal f m i j a b u r e g whole u_some r_some =
    slack_by _ (table_inside f m i a u r e whole u_some r_some)
    (table_at_place f m j b g (omega arith) ∙ ap (λ n. pos n *ℤ at f.value b) (sym whole))
    (table_inside f m (i + j) (a + b) u r (omega arith) whole u_some r_some)
    (horizontal_z u r (at f.right a) (at f.left (a + 1)) (at f.value b) (at f.right (a + b))
    (at f.left (a + b + 1)))

pub slack_on_vertical : (f : FunctionData) (m i j a b u r : ℕ) → i ≡ a * m → j ≡ b * m + r →
    u + r ≡ m →
    0 < u → 0 < r →
    table f m i +ℤ table f m j ≡ table f m (i + j) +ℤ weighted (u ∷ r ∷ [])
    (limits_of f Vertical a b)
slack_on_vertical f m i j a b u r e g whole u_some r_some =
    slack_by _ (table_at_place f m i a e (omega arith)
    ∙ ap (λ n. pos n *ℤ at f.value a) (sym whole))
    (table_inside f m j b u r g whole u_some r_some)
    (table_inside f m (i + j) (a + b) u r (omega arith) whole u_some r_some)
    (vertical_z u r (at f.value a) (at f.right b) (at f.left (b + 1)) (at f.right (a + b))
    (at f.left (a + b + 1)))

pub slack_on_diagonal : (f : FunctionData) (m i j a b r s : ℕ) → i ≡ a * m + r → j ≡ b * m + s →
    r + s ≡ m →
    0 < r → 0 < s →
    table f m i +ℤ table f m j ≡ table f m (i + j) +ℤ weighted (r ∷ s ∷ [])
    (limits_of f Diagonal a b)
slack_on_diagonal f m i j a b r s e g whole r_some s_some =
    slack_by _ (table_inside f m i a s r e (omega arith) s_some r_some)
    (table_inside f m j b r s g whole r_some s_some)
    (table_at_place f m (i + j) (a + b + 1) (omega arith) (omega arith)
    ∙ ap (λ n. pos n *ℤ at f.value (a + b + 1)) (sym whole))
    (diagonal_z r s (at f.right a) (at f.left (a + 1)) (at f.right b) (at f.left (b + 1))
    (at f.value (a + b + 1)))

pub slack_on_lower : (f : FunctionData) (m i j a b w r s : ℕ) → i ≡ a * m + r → j ≡ b * m + s →
    w + r + s ≡ m →
    0 < w → 0 < r → 0 < s →
    table f m i +ℤ table f m j ≡ table f m (i + j) +ℤ weighted (w ∷ r ∷ s ∷ [])
    (limits_of f Lower a b)
slack_on_lower f m i j a b w r s e g whole w_some r_some s_some =
    slack_by _ (table_inside f m i a (w + s) r e (omega arith) (omega arith) r_some)
    (table_inside f m j b (w + r) s g whole (omega arith) s_some)
    (table_inside f m (i + j) (a + b) w (r + s) (omega arith) (omega arith) w_some (omega arith))
    (lower_z w r s (at f.right a) (at f.left (a + 1)) (at f.right b) (at f.left (b + 1))
    (at f.right (a + b)) (at f.left (a + b + 1)))

-- here the rests of i and j are u + w and v + w
pub slack_on_upper : (f : FunctionData) (m i j a b u v w : ℕ) → i ≡ a * m + (u + w) →
    j ≡ b * m + (v + w) →
    u + v + w ≡ m → 0 < u → 0 < v → 0 < w →
    table f m i +ℤ table f m j ≡ table f m (i + j) +ℤ weighted (u ∷ v ∷ w ∷ [])
    (limits_of f Upper a b)
slack_on_upper f m i j a b u v w e g whole u_some v_some w_some =
    slack_by _ (table_inside f m i a v (u + w) e (omega arith) v_some (omega arith))
    (table_inside f m j b u (v + w) g (omega arith) u_some (omega arith))
    (table_inside f m (i + j) (a + b + 1) (u + v) w (omega arith) whole (omega arith) w_some)
    (upper_z u v w (at f.right a) (at f.left (a + 1)) (at f.right b) (at f.left (b + 1))
    (at f.right (a + b + 1)) (at f.left (a + b + 1 + 1)))

-- ---- near a corner: the weight 1 at each other corner and the rest at one

vertex_weights : (h : ℕ) (x : ℤ) → 1 ≤ h → weighted (h ∷ []) (x ∷ []) ≡ near_value h 0 (x ∷ [])
vertex_weights h x low =
    let rest : h ≡ h - 1 + 1 = omega arith in
    ap (λ n. weighted (n ∷ []) (x ∷ [])) rest
    ∙ by_ring (pos (h - 1) ∷ x ∷ []) (search ring depth 20) refl

first_of_two : (h : ℕ) (xs : List ℤ) → length xs ≡ 2 →
    weighted ((h - 2 + 1) ∷ 1 ∷ []) xs ≡ near_value h 0 xs
first_of_two h (x ∷ y ∷ []) e = by_ring (pos (h - 2) ∷ x ∷ y ∷ []) (search ring depth 20) refl
first_of_two h [] e = absurd (omega arith)
first_of_two h (x ∷ []) e = absurd (omega arith)
first_of_two h (x ∷ y ∷ z ∷ xs) e = absurd (omega arith)

second_of_two : (h : ℕ) (xs : List ℤ) → length xs ≡ 2 →
    weighted (1 ∷ (h - 2 + 1) ∷ []) xs ≡ near_value h 1 xs
second_of_two h (x ∷ y ∷ []) e = by_ring (pos (h - 2) ∷ x ∷ y ∷ []) (search ring depth 20) refl
second_of_two h [] e = absurd (omega arith)
second_of_two h (x ∷ []) e = absurd (omega arith)
second_of_two h (x ∷ y ∷ z ∷ xs) e = absurd (omega arith)

first_of_three : (h : ℕ) (xs : List ℤ) → length xs ≡ 3 →
    weighted ((h - 3 + 1) ∷ 1 ∷ 1 ∷ []) xs ≡ near_value h 0 xs
first_of_three h (x ∷ y ∷ z ∷ []) e =
    by_ring (pos (h - 3) ∷ x ∷ y ∷ z ∷ []) (search ring depth 20) refl
first_of_three h [] e = absurd (omega arith)
first_of_three h (x ∷ []) e = absurd (omega arith)
first_of_three h (x ∷ y ∷ []) e = absurd (omega arith)
first_of_three h (w ∷ x ∷ y ∷ z ∷ xs) e = absurd (omega arith)

second_of_three : (h : ℕ) (xs : List ℤ) → length xs ≡ 3 →
    weighted (1 ∷ (h - 3 + 1) ∷ 1 ∷ []) xs ≡ near_value h 1 xs
second_of_three h (x ∷ y ∷ z ∷ []) e =
    by_ring (pos (h - 3) ∷ x ∷ y ∷ z ∷ []) (search ring depth 20) refl
second_of_three h [] e = absurd (omega arith)
second_of_three h (x ∷ []) e = absurd (omega arith)
second_of_three h (x ∷ y ∷ []) e = absurd (omega arith)
second_of_three h (w ∷ x ∷ y ∷ z ∷ xs) e = absurd (omega arith)

third_of_three : (h : ℕ) (xs : List ℤ) → length xs ≡ 3 →
    weighted (1 ∷ 1 ∷ (h - 3 + 1) ∷ []) xs ≡ near_value h 2 xs
third_of_three h (x ∷ y ∷ z ∷ []) e =
    by_ring (pos (h - 3) ∷ x ∷ y ∷ z ∷ []) (search ring depth 20) refl
third_of_three h [] e = absurd (omega arith)
third_of_three h (x ∷ []) e = absurd (omega arith)
third_of_three h (x ∷ y ∷ []) e = absurd (omega arith)
third_of_three h (w ∷ x ∷ y ∷ z ∷ xs) e = absurd (omega arith)

weighted_two : (u r : ℕ) (x y : ℤ) → pos u *ℤ x +ℤ pos r *ℤ y ≡ weighted (u ∷ r ∷ []) (x ∷ y ∷ [])
weighted_two u r x y = by_ring (pos u ∷ pos r ∷ x ∷ y ∷ []) (search ring depth 20) refl

-- near the ends of an open interval
pub near_after : (f : FunctionData) (i h : ℕ) → 2 ≤ h →
    table f h (i * h + 1) ≡ near_value h 0 (at f.right i ∷ at f.left (i + 1) ∷ [])
near_after f i h low =
    table_inside f h (i * h + 1) i (h - 2 + 1) 1 (omega arith) (omega arith) (omega arith)
    (omega arith)
    ∙ weighted_two (h - 2 + 1) 1 (at f.right i) (at f.left (i + 1))
    ∙ first_of_two h (at f.right i ∷ at f.left (i + 1) ∷ []) refl

pub near_before : (f : FunctionData) (i h : ℕ) → 2 ≤ h →
    table f h (i * h + h - 1) ≡ near_value h 1 (at f.right i ∷ at f.left (i + 1) ∷ [])
near_before f i h low =
    table_inside f h (i * h + h - 1) i 1 (h - 2 + 1) (omega arith) (omega arith) (omega arith)
    (omega arith)
    ∙ weighted_two 1 (h - 2 + 1) (at f.right i) (at f.left (i + 1))
    ∙ second_of_two h (at f.right i ∷ at f.left (i + 1) ∷ []) refl

-- h times a number is h less n times and n times the number
whole_place : (n h a : ℕ) → n ≤ h → (h - n) * a + n * a ≡ a * h
whole_place n h a low =
    let k = h - n in
    let whole : k + n ≡ h = omega arith in
    omega (arith, ap (λ m. a * m) whole)

-- the slack near a corner of a face
abbrev pub IsAffineNear : FunctionData → FaceKind → ℕ → ℕ → ℕ → ℕ → Type 0
IsAffineNear f kind a b c h =
    table f h (near h c (first_coordinates kind a b)) +ℤ table f h
    (near h c (second_coordinates kind a b))
    ≡ table f h (near h c (first_coordinates kind a b) + near h c (second_coordinates kind a b))
    +ℤ near_value h c (limits_of f kind a b)

-- from the slack by its weights
by_weights : (f : FunctionData) (kind : FaceKind) (a b c h : ℕ) (weights : List ℕ) →
    table f h (near h c (first_coordinates kind a b)) +ℤ table f h
    (near h c (second_coordinates kind a b))
    ≡ table f h (near h c (first_coordinates kind a b) + near h c (second_coordinates kind a b))
    +ℤ weighted weights (limits_of f kind a b) →
    weighted weights (limits_of f kind a b) ≡ near_value h c (limits_of f kind a b) →
    IsAffineNear f kind a b c h
by_weights f kind a b c h weights slack same =
    slack
    ∙ ap (λ z. table f h
    (near h c (first_coordinates kind a b) + near h c (second_coordinates kind a b)) +ℤ z) same

near_vertex : (f : FunctionData) (a b h : ℕ) → 1 ≤ h → IsAffineNear f Vertex a b 0 h
near_vertex f a b h low =
    let x = whole_place 1 h a low in
    let y = whole_place 1 h b low in
    by_weights f Vertex a b 0 h (h ∷ [])
    (slack_on_vertex f h _ _ a b (omega arith) (omega arith) (omega arith))
    (vertex_weights h _ low)

near_horizontal : (f : FunctionData) (a b c h : ℕ) → c < 2 → 2 ≤ h →
    IsAffineNear f Horizontal a b c h
near_horizontal f a b zero h below low =
    let x = whole_place 2 h a low in
    let y = whole_place 2 h b low in
    by_weights f Horizontal a b 0 h ((h - 2 + 1) ∷ 1 ∷ [])
    (slack_on_horizontal f h _ _ a b (h - 2 + 1) 1
    (omega arith) (omega arith) (omega arith) (omega arith) (omega arith))
    (first_of_two h (limits_of f Horizontal a b) refl)
near_horizontal f a b (suc zero) h below low =
    let x = whole_place 2 h a low in
    let y = whole_place 2 h b low in
    by_weights f Horizontal a b 1 h (1 ∷ (h - 2 + 1) ∷ [])
    (slack_on_horizontal f h _ _ a b 1 (h - 2 + 1)
    (omega arith) (omega arith) (omega arith) (omega arith) (omega arith))
    (second_of_two h (limits_of f Horizontal a b) refl)
near_horizontal f a b (suc (suc c)) h below low = absurd (omega arith)

near_vertical : (f : FunctionData) (a b c h : ℕ) → c < 2 → 2 ≤ h → IsAffineNear f Vertical a b c h
near_vertical f a b zero h below low =
    let x = whole_place 2 h a low in
    let y = whole_place 2 h b low in
    by_weights f Vertical a b 0 h ((h - 2 + 1) ∷ 1 ∷ [])
    (slack_on_vertical f h _ _ a b (h - 2 + 1) 1
    (omega arith) (omega arith) (omega arith) (omega arith) (omega arith))
    (first_of_two h (limits_of f Vertical a b) refl)
near_vertical f a b (suc zero) h below low =
    let x = whole_place 2 h a low in
    let y = whole_place 2 h b low in
    by_weights f Vertical a b 1 h (1 ∷ (h - 2 + 1) ∷ [])
    (slack_on_vertical f h _ _ a b 1 (h - 2 + 1)
    (omega arith) (omega arith) (omega arith) (omega arith) (omega arith))
    (second_of_two h (limits_of f Vertical a b) refl)
near_vertical f a b (suc (suc c)) h below low = absurd (omega arith)

near_diagonal : (f : FunctionData) (a b c h : ℕ) → c < 2 → 2 ≤ h → IsAffineNear f Diagonal a b c h
near_diagonal f a b zero h below low =
    let x = whole_place 2 h a low in
    let y = whole_place 2 h b low in
    by_weights f Diagonal a b 0 h ((h - 2 + 1) ∷ 1 ∷ [])
    (slack_on_diagonal f h _ _ a b (h - 2 + 1) 1
    (omega arith) (omega arith) (omega arith) (omega arith) (omega arith))
    (first_of_two h (limits_of f Diagonal a b) refl)
near_diagonal f a b (suc zero) h below low =
    let x = whole_place 2 h a low in
    let y = whole_place 2 h b low in
    by_weights f Diagonal a b 1 h (1 ∷ (h - 2 + 1) ∷ [])
    (slack_on_diagonal f h _ _ a b 1 (h - 2 + 1)
    (omega arith) (omega arith) (omega arith) (omega arith) (omega arith))
    (second_of_two h (limits_of f Diagonal a b) refl)
near_diagonal f a b (suc (suc c)) h below low = absurd (omega arith)

near_lower : (f : FunctionData) (a b c h : ℕ) → c < 3 → 3 ≤ h → IsAffineNear f Lower a b c h
near_lower f a b zero h below low =
    let x = whole_place 3 h a low in
    let y = whole_place 3 h b low in
    by_weights f Lower a b 0 h ((h - 3 + 1) ∷ 1 ∷ 1 ∷ [])
    (slack_on_lower f h _ _ a b (h - 3 + 1) 1 1
    (omega arith) (omega arith) (omega arith) (omega arith) (omega arith) (omega arith))
    (first_of_three h (limits_of f Lower a b) refl)
near_lower f a b (suc zero) h below low =
    let x = whole_place 3 h a low in
    let y = whole_place 3 h b low in
    by_weights f Lower a b 1 h (1 ∷ (h - 3 + 1) ∷ 1 ∷ [])
    (slack_on_lower f h _ _ a b 1 (h - 3 + 1) 1
    (omega arith) (omega arith) (omega arith) (omega arith) (omega arith) (omega arith))
    (second_of_three h (limits_of f Lower a b) refl)
near_lower f a b (suc (suc zero)) h below low =
    let x = whole_place 3 h a low in
    let y = whole_place 3 h b low in
    by_weights f Lower a b 2 h (1 ∷ 1 ∷ (h - 3 + 1) ∷ [])
    (slack_on_lower f h _ _ a b 1 1 (h - 3 + 1)
    (omega arith) (omega arith) (omega arith) (omega arith) (omega arith) (omega arith))
    (third_of_three h (limits_of f Lower a b) refl)
near_lower f a b (suc (suc (suc c))) h below low = absurd (omega arith)

near_upper : (f : FunctionData) (a b c h : ℕ) → c < 3 → 3 ≤ h → IsAffineNear f Upper a b c h
near_upper f a b zero h below low =
    let x = whole_place 3 h a low in
    let y = whole_place 3 h b low in
    by_weights f Upper a b 0 h ((h - 3 + 1) ∷ 1 ∷ 1 ∷ [])
    (slack_on_upper f h _ _ a b (h - 3 + 1) 1 1
    (omega arith) (omega arith) (omega arith) (omega arith) (omega arith) (omega arith))
    (first_of_three h (limits_of f Upper a b) refl)
near_upper f a b (suc zero) h below low =
    let x = whole_place 3 h a low in
    let y = whole_place 3 h b low in
    by_weights f Upper a b 1 h (1 ∷ (h - 3 + 1) ∷ 1 ∷ [])
    (slack_on_upper f h _ _ a b 1 (h - 3 + 1) 1
    (omega arith) (omega arith) (omega arith) (omega arith) (omega arith) (omega arith))
    (second_of_three h (limits_of f Upper a b) refl)
near_upper f a b (suc (suc zero)) h below low =
    let x = whole_place 3 h a low in
    let y = whole_place 3 h b low in
    by_weights f Upper a b 2 h (1 ∷ 1 ∷ (h - 3 + 1) ∷ [])
    (slack_on_upper f h _ _ a b 1 1 (h - 3 + 1)
    (omega arith) (omega arith) (omega arith) (omega arith) (omega arith) (omega arith))
    (third_of_three h (limits_of f Upper a b) refl)
near_upper f a b (suc (suc (suc c))) h below low = absurd (omega arith)

-- on every face
pub near_corner : (f : FunctionData) (kind : FaceKind) (a b c h : ℕ) →
    c < length (corners_of kind a b) → length (corners_of kind a b) ≤ h →
    table f h (near h c (first_coordinates kind a b)) +ℤ table f h
    (near h c (second_coordinates kind a b))
    ≡ table f h (near h c (first_coordinates kind a b) + near h c (second_coordinates kind a b))
    +ℤ near_value h c (limits_of f kind a b)
near_corner f Vertex a b zero h below low = near_vertex f a b h low
near_corner f Vertex a b (suc c) h below low = absurd (omega arith)
near_corner f Horizontal a b c h below low = near_horizontal f a b c h below low
near_corner f Vertical a b c h below low = near_vertical f a b c h below low
near_corner f Diagonal a b c h below low = near_diagonal f a b c h below low
near_corner f Lower a b c h below low = near_lower f a b c h below low
near_corner f Upper a b c h below low = near_upper f a b c h below low
