-- The slacks on a finer grid are at least what the slacks at the corners allow, and some of them
-- are just that.
use Rattle.std.proofs.Common.{◌≡◌, ℕ, zero, suc, ◌⊎◌, inl, inr, ◌+◌, ◌-◌, ◌*◌, ◌%◌, ◌<◌, ◌≤◌, ℤ, pos, ◌+ℤ◌, ◌*ℤ◌, ◌<ℤ◌, ◌≤ℤ◌, List, [], ◌∷◌, length, get_or, map, All, refl, sym, ap, ap₂, subst, ◌∙◌, arith}
use Rattle.std.specs.List.{Contains}
use Rattle.std.proofs.Math.Nat.{add_comm, add-mod, mod-lt, mod-mod}
use Rattle.std.proofs.lemmas.Bool.{cases_order, cases_lt}
use Rattle.std.proofs.lemmas.Int.{ints, by_lt_z}
use Rattle.std.proofs.lemmas.List.Elements.{All-nil, All-cons, All-head, All-tail, All-map, All-contains}
use Rattle.gj_lemmas.proofs.Integers.{mul_nonnegative_z, mul_le_mul_left_z, mul_le_mul_right_z, mul_le_cancel_right_z, mul_comm_z}
use Rattle.gj_lemmas.proofs.Lists.{All-one, All-two, All-three}
use Rattle.gj_lemmas.proofs.Quotients.{same_at_remainder}
use Rattle.gj_lemmas.proofs.Ring.{by_ring, ring}
use Rattle.gj_shape.specs.FunctionData.{FunctionData, IsWithinBounds, IsContinuous, at}
use Rattle.gj_shape.specs.Faces.{corners_of, limits_of, slack_from}
use Rattle.gj_shape.specs.Perturbation.{slack_on_grid}
use Rattle.gj_shape.specs.Table.{table, IsMinimal}
use Rattle.gj_shape.specs.declared.faces.FaceKind.{FaceKind}
use Rattle.gj_shape.specs.declared.faces.FaceKind.TheVariants.{Vertex, Horizontal, Vertical, Diagonal, Lower, Upper}
use Rattle.gj_shape.proofs.TableLemmas.{table_of_order, slack_at, limits_are_slacks, at_plus_order}
use Rattle.gj_theory.specs.CornerSlacks.{IsBelowCorners}
use Rattle.gj_theory.proofs.Affine.{weighted, limit_count, slack_on_vertex, slack_on_horizontal, slack_on_vertical, slack_on_diagonal, slack_on_lower, slack_on_upper}
use Rattle.gj_theory.proofs.MinimalFromTests.{Place, place_of}
use Rattle.gj_theory.proofs.MinimalFromTests.Place.{at_multiple, inside}

-- ---- sums by weights above 0 of numbers that are not negative

pub sum_nonnegative : (ws : List ℕ) (xs : List ℤ) → All (λ x. pos 0 ≤ℤ x) xs →
    pos 0 ≤ℤ weighted ws xs
sum_nonnegative [] xs h = omega (arith, ints)
sum_nonnegative (w ∷ ws) [] h = omega (arith, ints)
sum_nonnegative (w ∷ ws) (x ∷ xs) h =
    let first = mul_nonnegative_z (pos w) x (omega (arith, ints))
    (All-head (λ y. pos 0 ≤ℤ y) x xs h) in
    let rest = sum_nonnegative ws xs (All-tail (λ y. pos 0 ≤ℤ y) x xs h) in
    omega (arith, ints)

-- the sum of the weights
abbrev whole_weight : List ℕ → ℕ
whole_weight [] = 0
whole_weight (w ∷ ws) = w + whole_weight ws

weights_sum : (w n : ℕ) (u : ℤ) → pos (w + n) *ℤ u ≡ pos w *ℤ u +ℤ pos n *ℤ u
weights_sum w n u = by_ring (pos w ∷ pos n ∷ u ∷ []) (search ring depth 20) refl

scaled_sum : (m w : ℕ) (x y : ℤ) → pos m *ℤ (pos w *ℤ x +ℤ y) ≡ pos w *ℤ (pos m *ℤ x) +ℤ pos m *ℤ y
scaled_sum m w x y = by_ring (pos m ∷ pos w ∷ x ∷ y ∷ []) (search ring depth 20) refl

-- m times each number is at least u
all_large : (m : ℕ) (u : ℤ) (ws : List ℕ) (xs : List ℤ) → length xs ≡ length ws →
    All (λ x. u ≤ℤ (pos m *ℤ x)) xs →
    (pos (whole_weight ws) *ℤ u) ≤ℤ (pos m *ℤ weighted ws xs)
all_large m u [] xs e h = omega (arith, ints)
all_large m u (w ∷ ws) [] e h = absurd (omega arith)
all_large m u (w ∷ ws) (x ∷ xs) e h =
    let P = λ (y : ℤ). u ≤ℤ (pos m *ℤ y) in
    let first = mul_le_mul_left_z u (pos m *ℤ x) (pos w) (omega (arith, ints))
    (All-head P x xs h) in
    let rest = all_large m u ws xs (omega arith) (All-tail P x xs h) in
    let left : pos (whole_weight (w ∷ ws)) *ℤ u ≡ pos w *ℤ u +ℤ pos (whole_weight ws) *ℤ u =
    weights_sum w (whole_weight ws) u in
    let right : pos m *ℤ weighted (w ∷ ws) (x ∷ xs) ≡ pos w *ℤ (pos m *ℤ x) +ℤ pos m
    *ℤ weighted ws xs =
    scaled_sum m w x (weighted ws xs) in
    omega (arith, ints)

-- the numbers above 0 are at least u
some_large : (u : ℤ) (ws : List ℕ) (xs : List ℤ) → All (λ w. 0 < w) ws → All (λ x. pos 0 ≤ℤ x) xs →
    All (λ x. pos 0 <ℤ x → u ≤ℤ x) xs → pos 0 <ℤ weighted ws xs → u ≤ℤ weighted ws xs
some_large u [] xs some low h positive = absurd (omega (arith, ints))
some_large u (w ∷ ws) [] some low h positive = absurd (omega (arith, ints))
some_large u (w ∷ ws) (x ∷ xs) some low h positive =
    let P = λ (y : ℤ). pos 0 ≤ℤ y in
    let Q = λ (y : ℤ). pos 0 <ℤ y → u ≤ℤ y in
    let here = All-head P x xs low in
    let one = All-head (λ v. 0 < v) w ws some in
    let first : (pos 1 *ℤ x) ≤ℤ (pos w *ℤ x) =
    mul_le_mul_right_z (pos 1) (pos w) x here (omega (arith, ints)) in
    by_lt_z (pos 0) x
    (λ above.
    let large = All-head Q x xs h above in
    let rest = sum_nonnegative ws xs (All-tail P x xs low) in
    omega (arith, ints))
    (λ none.
    let zero_x : x ≡ pos 0 = omega (arith, ints) in
    let nothing : pos w *ℤ x ≡ pos 0 = ap (λ y. pos w *ℤ y) zero_x ∙ omega (arith, ints) in
    let rest = some_large u ws xs (All-tail (λ v. 0 < v) w ws some) (All-tail P x xs low)
    (All-tail Q x xs h)
    (omega (arith, ints)) in
    omega (arith, ints))

zero_or_positive : (xs : List ℤ) → All (λ x. pos 0 ≤ℤ x) xs →
    Contains xs (pos 0) ⊎ All (λ x. pos 0 <ℤ x) xs
zero_or_positive [] h = inr (All-nil (λ x. pos 0 <ℤ x))
zero_or_positive (x ∷ xs) h =
    let P = λ (y : ℤ). pos 0 ≤ℤ y in
    let here = All-head P x xs h in
    by_lt_z (pos 0) x
    (λ above. elim (zero_or_positive xs (All-tail P x xs h)) [
      | inl found ↦ inl (suc found.0, (let below = found.1 in omega arith), found.2)
      | inr all ↦ inr (All-cons (λ y. pos 0 <ℤ y) x xs above all)
    ])
    (λ none. inl (0, omega arith, let e : x ≡ pos 0 = omega (arith, ints) in e))

from_weights : (m u : ℕ) (ws : List ℕ) (xs : List ℤ) → 0 < m → All (λ w. 0 < w) ws →
    length xs ≡ length ws → whole_weight ws ≡ m →
    All (λ x. pos 0 ≤ℤ x) xs → IsBelowCorners m u xs → pos 0 <ℤ weighted ws xs →
    pos u ≤ℤ weighted ws xs
from_weights m u ws xs m_some some len whole low h positive =
    elim (zero_or_positive xs low) [
      | inl tight ↦ some_large (pos u) ws xs some low (h.beside_zero tight) positive
      | inr all ↦
          let large = all_large m (pos u) ws xs len
          (λ k d below. h.each k d below (all k d below)) in
          let left : pos (whole_weight ws) *ℤ pos u ≡ pos u *ℤ pos m =
          ap (λ n. pos n *ℤ pos u) whole ∙ mul_comm_z (pos m) (pos u) in
          let right : pos m *ℤ weighted ws xs ≡ weighted ws xs *ℤ pos m =
          mul_comm_z (pos m) (weighted ws xs) in
          mul_le_cancel_right_z (pos u) (weighted ws xs) (pos m) (omega (arith, ints))
          (omega (arith, ints))
    ]

-- ---- the corners of one face among those of another

among : (m u : ℕ) (xs ys : List ℤ) → All (Contains xs) ys → IsBelowCorners m u xs →
    IsBelowCorners m u ys
among m u xs ys inside' h = record {
  each = λ k d below. All-contains (λ x. pos 0 <ℤ x → pos u ≤ℤ (pos m *ℤ x)) xs
      (get_or ys k d) h.each (inside' k d below);
  beside_zero = λ tight.
      let beside = h.beside_zero (All-contains (Contains xs) ys (pos 0) inside' tight) in
      λ k d below. All-contains (λ x. pos 0 <ℤ x → pos u ≤ℤ x) xs (get_or ys k d) beside
      (inside' k d below);
}

in_first : (x y z : ℤ) → Contains (x ∷ y ∷ z ∷ []) x
in_first x y z = (0, omega arith, refl)

in_second : (x y z : ℤ) → Contains (x ∷ y ∷ z ∷ []) y
in_second x y z = (1, omega arith, refl)

in_third : (x y z : ℤ) → Contains (x ∷ y ∷ z ∷ []) z
in_third x y z = (2, omega arith, refl)

first_of : (m u : ℕ) (x y z : ℤ) → IsBelowCorners m u (x ∷ y ∷ z ∷ []) → IsBelowCorners m u (x ∷ [])
first_of m u x y z = among m u _ _ (All-one (Contains (x ∷ y ∷ z ∷ [])) x (in_first x y z))

first_two : (m u : ℕ) (x y z : ℤ) → IsBelowCorners m u (x ∷ y ∷ z ∷ []) →
    IsBelowCorners m u (x ∷ y ∷ [])
first_two m u x y z =
    among m u _ _ (All-two (Contains (x ∷ y ∷ z ∷ [])) x y (in_first x y z) (in_second x y z))

outer_two : (m u : ℕ) (x y z : ℤ) → IsBelowCorners m u (x ∷ y ∷ z ∷ []) →
    IsBelowCorners m u (x ∷ z ∷ [])
outer_two m u x y z =
    among m u _ _ (All-two (Contains (x ∷ y ∷ z ∷ [])) x z (in_first x y z) (in_third x y z))

last_two : (m u : ℕ) (x y z : ℤ) → IsBelowCorners m u (x ∷ y ∷ z ∷ []) →
    IsBelowCorners m u (y ∷ z ∷ [])
last_two m u x y z =
    among m u _ _ (All-two (Contains (x ∷ y ∷ z ∷ [])) y z (in_second x y z) (in_third x y z))

mirrored : (m u : ℕ) (x y z : ℤ) → IsBelowCorners m u (x ∷ y ∷ z ∷ []) →
    IsBelowCorners m u (x ∷ z ∷ y ∷ [])
mirrored m u x y z =
    among m u _ _ (All-three (Contains (x ∷ y ∷ z ∷ [])) x z y (in_first x y z) (in_third x y z)
    (in_second x y z))

-- what holds of each two corners holds of three
from_pairs : (m u : ℕ) (x y z : ℤ) → IsBelowCorners m u (x ∷ y ∷ []) →
    IsBelowCorners m u (x ∷ z ∷ []) → IsBelowCorners m u (y ∷ z ∷ []) →
    IsBelowCorners m u (x ∷ y ∷ z ∷ [])
from_pairs m u x y z xy xz yz = record {
  each = All-three (λ v. pos 0 <ℤ v → pos u ≤ℤ (pos m *ℤ v)) x y z (xy.each 0 x (omega arith))
      (xy.each 1 x (omega arith))
      (xz.each 1 x (omega arith));
  beside_zero = beside;
}
  where
    P : ℤ → Type 0
    P v = pos 0 <ℤ v → pos u ≤ℤ v

    none : (v : ℤ) → v ≡ pos 0 → pos 0 <ℤ v → pos u ≤ℤ v
    none v e above = absurd (omega (arith, ints))

    beside : Contains (x ∷ y ∷ z ∷ []) (pos 0) → All (λ v. pos 0 <ℤ v → pos u ≤ℤ v) (x ∷ y ∷ z ∷ [])
    beside (zero, below, e) =
        All-three (λ v. pos 0 <ℤ v → pos u ≤ℤ v) x y z (none x e)
        (xy.beside_zero (0, omega arith, e) 1 x (omega arith))
        (xz.beside_zero (0, omega arith, e) 1 x (omega arith))
    beside (suc zero, below, e) =
        All-three (λ v. pos 0 <ℤ v → pos u ≤ℤ v) x y z
        (xy.beside_zero (1, omega arith, e) 0 x (omega arith)) (none y e)
        (yz.beside_zero (0, omega arith, e) 1 x (omega arith))
    beside (suc (suc zero), below, e) =
        All-three (λ v. pos 0 <ℤ v → pos u ≤ℤ v) x y z
        (xz.beside_zero (1, omega arith, e) 0 x (omega arith))
        (yz.beside_zero (1, omega arith, e) 0 x (omega arith)) (none z e)
    beside (suc (suc (suc k)), below, e) = absurd (omega arith)

-- ---- all triangles from half of them

-- the slack at a pair of multiples of 1/order
abbrev slack : FunctionData → ℕ → ℕ → ℤ
slack f a b = slack_at f (a, b)

same_slack : (f : FunctionData) (a b c d : ℕ) → IsWithinBounds f → a % f.order ≡ c % f.order →
    b % f.order ≡ d % f.order →
    slack f a b ≡ slack f c d
same_slack f a b c d l e g =
    let same = same_at_remainder (at f.value) f.order
    (λ i. at_plus_order f.value i f.order l.value_length) in
    let both : (a + b) % f.order ≡ (c + d) % f.order =
    add-mod a b f.order ∙ ap₂ (λ x y. (x + y) % f.order) e g ∙ sym (add-mod c d f.order) in
    let first = same a c e in
    let second = same b d g in
    let third = same (a + b) (c + d) both in
    omega (arith, ints)

turned_slack : (f : FunctionData) (a b : ℕ) → slack f a b ≡ slack f b a
turned_slack f a b = let sum_is = ap (at f.value) (add_comm a b) in omega (arith, ints)

-- the next index modulo the order
next_index : (a q : ℕ) → (a % q + 1) % q ≡ (a + 1) % q
next_index a q = add-mod (a % q) 1 q ∙ ap (λ r. (r + 1 % q) % q) (mod-mod a q) ∙ sym (add-mod a 1 q)

abbrev IsBelowTriangle : FunctionData → ℕ → ℕ → ℕ → ℕ → Type 0
IsBelowTriangle f m u a b =
    IsBelowCorners m u (slack f a b ∷ slack f (a + 1) b ∷ slack f a (b + 1) ∷ [])

same_triangle : (m u : ℕ) (x x' y y' z z' : ℤ) → x ≡ x' → y ≡ y' → z ≡ z' →
    IsBelowCorners m u (x ∷ y ∷ z ∷ []) →
    IsBelowCorners m u (x' ∷ y' ∷ z' ∷ [])
same_triangle m u x x' y y' z z' e g h =
    subst (IsBelowCorners m u) (let same : x ∷ y ∷ z ∷ [] ≡ x' ∷ y' ∷ z' ∷ [] = cc in same)

turned_triangle : (f : FunctionData) (m u a b : ℕ) → IsBelowTriangle f m u b a →
    IsBelowTriangle f m u a b
turned_triangle f m u a b h =
    same_triangle m u _ _ _ _ _ _ (turned_slack f b a) (turned_slack f b (a + 1))
    (turned_slack f (b + 1) a)
    (mirrored m u _ _ _ h)

all_triangles : (f : FunctionData) (m u : ℕ) → IsWithinBounds f →
    ((a b : ℕ) → a ≤ b → b < f.order → IsBelowTriangle f m u a b) → (a b : ℕ) →
    IsBelowTriangle f m u a b
all_triangles f m u l h a b =
    let q = f.order in
    let some : 0 < f.order = omega (arith, l.order_low) in
    let c = a % f.order in
    let d = b % f.order in
    same_triangle m u _ _ _ _ _ _ (same_slack f c d a b l (mod-mod a q) (mod-mod b q))
    (same_slack f (c + 1) d (a + 1) b l (next_index a q) (mod-mod b q))
    (same_slack f c (d + 1) a (b + 1) l (mod-mod a q) (next_index b q))
    (elim (cases_lt d c) [
      | inl less ↦ turned_triangle f m u c d (h d c (omega arith) (mod-lt a some))
      | inr high ↦ h c d high (mod-lt b some)
    ])

-- ---- the slacks at the corners of every face

on_face : (f : FunctionData) (m u : ℕ) → ((a b : ℕ) → IsBelowTriangle f m u a b) →
    (kind : FaceKind) (a b : ℕ) →
    IsBelowCorners m u (map (slack_at f) (corners_of kind a b))
on_face f m u h Vertex a b = first_of m u _ _ _ (h a b)
on_face f m u h Horizontal a b = first_two m u _ _ _ (h a b)
on_face f m u h Vertical a b = outer_two m u _ _ _ (h a b)
on_face f m u h Diagonal a b = last_two m u _ _ _ (h a b)
on_face f m u h Lower a b = h a b
on_face f m u h Upper a b =
    from_pairs m u _ _ _ (last_two m u _ _ _ (h a b)) (outer_two m u _ _ _ (h (a + 1) b))
    (first_two m u _ _ _ (h a (b + 1)))

pub slack_low : (f : FunctionData) → IsMinimal f → (corner : ℕ × ℕ) → pos 0 ≤ℤ slack_at f corner
slack_low f h corner =
    let whole = (h 1 (omega arith)).subadditive corner.0 corner.1 in
    let value = table_of_order f in
    let values = rw (value (corner.0 + corner.1), value corner.0, value corner.1) at whole in
    omega (arith, ints)

-- from the weights of a point in a face, all of them above 0
abbrev Allows : FunctionData → ℕ → ℕ → Type 0
Allows f m u = (a b : ℕ) → IsBelowTriangle f m u a b

face_low : (f : FunctionData) (m u : ℕ) → IsContinuous f → IsMinimal f → 0 < m → Allows f m u →
    (kind : FaceKind) (a b : ℕ) (ws : List ℕ) → All (λ w. 0 < w) ws →
    length (corners_of kind a b) ≡ length ws → whole_weight ws ≡ m →
    (i j : ℕ) → table f m i +ℤ table f m j ≡ table f m (i + j) +ℤ weighted ws
    (limits_of f kind a b) →
    pos 0 <ℤ slack_on_grid f m i j → pos u ≤ℤ slack_on_grid f m i j
face_low f m u c minimal m_some h kind a b ws some len whole i j e positive =
    let limits = limits_are_slacks f kind a b c in
    let count = limit_count f kind a b in
    let below = subst (IsBelowCorners m u) (sym limits) (on_face f m u h kind a b) in
    let low = subst (All (λ v. pos 0 ≤ℤ v)) (sym limits)
    (All-map (λ v. pos 0 ≤ℤ v) (slack_at f) (corners_of kind a b)
    (λ k d inside'. slack_low f minimal (get_or (corners_of kind a b) k d))) in
    let slack_is : slack_on_grid f m i j ≡ weighted ws (limits_of f kind a b) =
    omega (arith, ints) in
    let above : pos 0 <ℤ weighted ws (limits_of f kind a b) = omega (arith, ints) in
    let large = from_weights m u ws (limits_of f kind a b) m_some some
    (count ∙ len) whole low below above in
    omega (arith, ints)

pub one_weight : (u : ℕ) → 0 < u → All (λ w. 0 < w) (u ∷ [])
one_weight u u_some = All-cons (λ w. 0 < w) u [] u_some (All-nil (λ w. 0 < w))

pub two_weights : (u v : ℕ) → 0 < u → 0 < v → All (λ w. 0 < w) (u ∷ v ∷ [])
two_weights u v u_some v_some = All-cons (λ w. 0 < w) u (v ∷ []) u_some (one_weight v v_some)

pub three_weights : (u v w : ℕ) → 0 < u → 0 < v → 0 < w → All (λ w. 0 < w) (u ∷ v ∷ w ∷ [])
three_weights u v w u_some v_some w_some =
    All-cons (λ w. 0 < w) u (v ∷ w ∷ []) u_some (two_weights v w v_some w_some)

low_inside : (f : FunctionData) (m u : ℕ) → IsContinuous f → IsMinimal f → Allows f m u →
    (i j a b r s : ℕ) →
    i ≡ a * m + r → j ≡ b * m + s → 0 < r → r < m → 0 < s → s < m → pos 0 <ℤ slack_on_grid f m i j →
    pos u ≤ℤ slack_on_grid f m i j
low_inside f m u c minimal h i j a b r s e g r_some r_low s_some s_low =
    elim (cases_order (r + s) m) [
      | inl whole ↦
          face_low f m u c minimal (omega arith) h Diagonal a b (r ∷ s ∷ [])
          (two_weights r s r_some s_some) refl (omega arith) i j
          (slack_on_diagonal f m i j a b r s e g whole r_some s_some)
      | inr other ↦ elim other [
        | inl low ↦
            let w = m - (r + s) in
            face_low f m u c minimal (omega arith) h Lower a b (w ∷ r ∷ s ∷ [])
            (three_weights w r s (omega arith) r_some s_some) refl
            (omega arith) i j
            (slack_on_lower f m i j a b w r s e g (omega arith) (omega arith) r_some s_some)
        | inr high ↦
            let p = m - s in
            let v = m - r in
            let w = r + s - m in
            face_low f m u c minimal (omega arith) h Upper a b (p ∷ v ∷ w ∷ [])
            (three_weights p v w (omega arith) (omega arith) (omega arith)) refl (omega arith) i j
            (slack_on_upper f m i j a b p v w (omega arith) (omega arith) (omega arith)
            (omega arith) (omega arith)
            (omega arith))
      ]
    ]

low_in_square : (f : FunctionData) (m u : ℕ) → IsContinuous f → IsMinimal f → 0 < m → Allows f m u →
    (i j a b : ℕ) →
    Place m i a → Place m j b → pos 0 <ℤ slack_on_grid f m i j → pos u ≤ℤ slack_on_grid f m i j
low_in_square f m u c minimal some h i j a b (at_multiple e) (at_multiple g) =
    face_low f m u c minimal some h Vertex a b (m ∷ []) (one_weight m some) refl (omega arith) i j
    (slack_on_vertex f m i j a b e g some)
low_in_square f m u c minimal some h i j a b (inside r v e whole v_some r_some) (at_multiple g) =
    face_low f m u c minimal some h Horizontal a b (v ∷ r ∷ []) (two_weights v r v_some r_some) refl
    (omega arith) i j
    (slack_on_horizontal f m i j a b v r e g whole v_some r_some)
low_in_square f m u c minimal some h i j a b (at_multiple e) (inside s v g whole v_some s_some) =
    face_low f m u c minimal some h Vertical a b (v ∷ s ∷ []) (two_weights v s v_some s_some) refl
    (omega arith) i j
    (slack_on_vertical f m i j a b v s e g whole v_some s_some)
low_in_square f m u c minimal some h i j a b (inside r p e whole p_some low)
    (inside s v g sum_is v_some more) =
    low_inside f m u c minimal h i j a b r s e g low (omega arith) more (omega arith)

pub grid_slacks_low : (f : FunctionData) (m u : ℕ) → IsWithinBounds f → IsContinuous f →
    IsMinimal f → 0 < m →
    ((a b : ℕ) → a ≤ b → b < f.order → IsBelowCorners m u (limits_of f Lower a b)) → (i j : ℕ) →
    pos 0 <ℤ slack_on_grid f m i j → pos u ≤ℤ slack_on_grid f m i j
grid_slacks_low f m u l c minimal some h i j =
    low_in_square f m u c minimal some
    (all_triangles f m u l
    (λ a b from below. subst (IsBelowCorners m u) (limits_are_slacks f Lower a b c)
    (h a b from below)))
    i j _ _ (place_of m i some) (place_of m j some)

-- ---- slacks that are reached

pub slack_at_multiples : (f : FunctionData) (m a b : ℕ) → 0 < m →
    slack_on_grid f m (a * m) (b * m) ≡ pos m *ℤ slack_from (at f.value a) (at f.value b)
    (at f.value (a + b))
slack_at_multiples f m a b some =
    let s = slack_from (at f.value a) (at f.value b) (at f.value (a + b)) in
    let here = slack_on_vertex f m (a * m) (b * m) a b refl refl some in
    let one : weighted (m ∷ []) (s ∷ []) ≡ pos m *ℤ s = omega (arith, ints) in
    omega (arith, ints)

-- the weight m - 1 at a corner where the slack is 0, and 1 at another
abbrev IsReached : FunctionData → ℕ → ℤ → Type 0
IsReached f m x = (i : ℕ) × (j : ℕ) × (slack_on_grid f m i j ≡ x)

reached_by : (f : FunctionData) (m i j : ℕ) (ws : List ℕ) (xs ys : List ℤ) (x : ℤ) →
    table f m i +ℤ table f m j ≡ table f m (i + j) +ℤ weighted ws xs → xs ≡ ys →
    weighted ws ys ≡ x → IsReached f m x
reached_by f m i j ws xs ys x e same is =
    let here = ap (weighted ws) same ∙ is in
    (i, j, omega (arith, ints))

rest_first : (n : ℕ) (y x : ℤ) → y ≡ pos 0 → weighted (n ∷ 1 ∷ []) (y ∷ x ∷ []) ≡ x
rest_first n y x e = ap (λ z. weighted (n ∷ 1 ∷ []) (z ∷ x ∷ [])) e ∙ omega (arith, ints)

rest_last : (n : ℕ) (x y : ℤ) → y ≡ pos 0 → weighted (1 ∷ n ∷ []) (x ∷ y ∷ []) ≡ x
rest_last n x y e = ap (λ z. weighted (1 ∷ n ∷ []) (x ∷ z ∷ [])) e ∙ omega (arith, ints)

-- two corners that an edge joins
along_horizontal : (f : FunctionData) (m a b : ℕ) (x : ℤ) → IsContinuous f → 2 ≤ m →
    (slack f a b ≡ pos 0) × (slack f (a + 1) b ≡ x) ⊎ (slack f a b ≡ x)
    × (slack f (a + 1) b ≡ pos 0) → IsReached f m x
along_horizontal f m a b x c two (inl (e, g)) =
    reached_by f m _ _ ((m - 1) ∷ 1 ∷ []) _ _ x
    (slack_on_horizontal f m (a * m + 1) (b * m) a b (m - 1) 1 refl refl (omega arith) (omega arith)
    (omega arith))
    (limits_are_slacks f Horizontal a b c) (rest_first (m - 1) _ _ e ∙ g)
along_horizontal f m a b x c two (inr (e, g)) =
    reached_by f m _ _ (1 ∷ (m - 1) ∷ []) _ _ x
    (slack_on_horizontal f m (a * m + (m - 1)) (b * m) a b 1 (m - 1) refl refl (omega arith)
    (omega arith) (omega arith))
    (limits_are_slacks f Horizontal a b c) (rest_last (m - 1) _ _ g ∙ e)

along_vertical : (f : FunctionData) (m a b : ℕ) (x : ℤ) → IsContinuous f → 2 ≤ m →
    (slack f a b ≡ pos 0) × (slack f a (b + 1) ≡ x) ⊎ (slack f a b ≡ x)
    × (slack f a (b + 1) ≡ pos 0) → IsReached f m x
along_vertical f m a b x c two (inl (e, g)) =
    reached_by f m _ _ ((m - 1) ∷ 1 ∷ []) _ _ x
    (slack_on_vertical f m (a * m) (b * m + 1) a b (m - 1) 1 refl refl (omega arith) (omega arith)
    (omega arith))
    (limits_are_slacks f Vertical a b c) (rest_first (m - 1) _ _ e ∙ g)
along_vertical f m a b x c two (inr (e, g)) =
    reached_by f m _ _ (1 ∷ (m - 1) ∷ []) _ _ x
    (slack_on_vertical f m (a * m) (b * m + (m - 1)) a b 1 (m - 1) refl refl (omega arith)
    (omega arith) (omega arith))
    (limits_are_slacks f Vertical a b c) (rest_last (m - 1) _ _ g ∙ e)

along_diagonal : (f : FunctionData) (m a b : ℕ) (x : ℤ) → IsContinuous f → 2 ≤ m →
    (slack f (a + 1) b ≡ pos 0) × (slack f a (b + 1) ≡ x) ⊎ (slack f (a + 1) b ≡ x)
    × (slack f a (b + 1) ≡ pos 0) →
    IsReached f m x
along_diagonal f m a b x c two (inl (e, g)) =
    reached_by f m _ _ ((m - 1) ∷ 1 ∷ []) _ _ x
    (slack_on_diagonal f m (a * m + (m - 1)) (b * m + 1) a b (m - 1) 1 refl refl (omega arith)
    (omega arith) (omega arith))
    (limits_are_slacks f Diagonal a b c) (rest_first (m - 1) _ _ e ∙ g)
along_diagonal f m a b x c two (inr (e, g)) =
    reached_by f m _ _ (1 ∷ (m - 1) ∷ []) _ _ x
    (slack_on_diagonal f m (a * m + 1) (b * m + (m - 1)) a b 1 (m - 1) refl refl (omega arith)
    (omega arith) (omega arith))
    (limits_are_slacks f Diagonal a b c) (rest_last (m - 1) _ _ g ∙ e)

-- an index of one of three
data Which : ℕ → Type 0 where
  at_first : Which 0
  at_second : Which 1
  at_third : Which 2

which : (k : ℕ) → k < 3 → Which k
which zero below = at_first
which (suc zero) below = at_second
which (suc (suc zero)) below = at_third
which (suc (suc (suc k))) below = absurd (omega arith)

beside_of : (f : FunctionData) (m a b : ℕ) (x : ℤ) → IsContinuous f → 2 ≤ m → pos 0 <ℤ x →
    (k n : ℕ) → Which k → Which n →
    get_or (slack f a b ∷ slack f (a + 1) b ∷ slack f a (b + 1) ∷ []) k (pos 0) ≡ pos 0 →
    get_or (slack f a b ∷ slack f (a + 1) b ∷ slack f a (b + 1) ∷ []) n x ≡ x → IsReached f m x
beside_of f m a b x c two positive k n at_first at_first e g = absurd (omega (arith, ints))
beside_of f m a b x c two positive k n at_first at_second e g =
    along_horizontal f m a b x c two (inl (e, g))
beside_of f m a b x c two positive k n at_first at_third e g =
    along_vertical f m a b x c two (inl (e, g))
beside_of f m a b x c two positive k n at_second at_first e g =
    along_horizontal f m a b x c two (inr (g, e))
beside_of f m a b x c two positive k n at_second at_second e g = absurd (omega (arith, ints))
beside_of f m a b x c two positive k n at_second at_third e g =
    along_diagonal f m a b x c two (inl (e, g))
beside_of f m a b x c two positive k n at_third at_first e g =
    along_vertical f m a b x c two (inr (g, e))
beside_of f m a b x c two positive k n at_third at_second e g =
    along_diagonal f m a b x c two (inr (g, e))
beside_of f m a b x c two positive k n at_third at_third e g = absurd (omega (arith, ints))

pub reached_beside_zero : (f : FunctionData) (m a b : ℕ) (x : ℤ) → IsContinuous f → 2 ≤ m →
    Contains (limits_of f Lower a b) (pos 0) → Contains (limits_of f Lower a b) x → pos 0 <ℤ x →
    (i : ℕ) × (j : ℕ) × (slack_on_grid f m i j ≡ x)
reached_beside_zero f m a b x c two tight here positive =
    let limits = limits_are_slacks f Lower a b c in
    of_both (subst (λ xs. Contains xs (pos 0)) limits tight)
    (subst (λ xs. Contains xs x) limits here)
  where
    of_both : Contains (slack f a b ∷ slack f (a + 1) b ∷ slack f a (b + 1) ∷ []) (pos 0) →
        Contains (slack f a b ∷ slack f (a + 1) b ∷ slack f a (b + 1) ∷ []) x → IsReached f m x
    of_both (k, k_below, e) (n, n_below, g) =
        beside_of f m a b x c two positive k n (which k k_below) (which n n_below) e g
