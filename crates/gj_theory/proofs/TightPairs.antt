-- A tight pair of the table on any grid lies in the closure of an additive face.
use Rattle.std.proofs.Common.{◌≡◌, ℕ, inl, inr, ◌+◌, ◌-◌, ◌*◌, ◌/◌, ◌%◌, ◌<◌, ◌≤◌, ℤ, pos, ◌+ℤ◌, ◌≤ℤ◌, List, [], ◌∷◌, length, get_or, map, All, refl, sym, ap₂, subst, ◌∙◌, arith}
use Rattle.std.proofs.Math.Nat.{add-mod}
use Rattle.std.proofs.lemmas.Bool.{cases_order}
use Rattle.std.proofs.lemmas.Int.{ints}
use Rattle.std.proofs.lemmas.List.Elements.{All-nil, All-cons, All-head, All-tail, All-map}
use Rattle.gj_lemmas.proofs.Integers.{mul_nonnegative_z, zero_factor_z}
use Rattle.gj_lemmas.proofs.Quotients.{same_at_remainder}
use Rattle.gj_shape.specs.FunctionData.{FunctionData, IsWithinBounds, IsContinuous}
use Rattle.gj_shape.specs.Additive.{IsTight, IsTightOnGrid, IsAdditive, IsInFace, IsInClosure}
use Rattle.gj_shape.specs.Faces.{corners_of, limits_of}
use Rattle.gj_shape.specs.Table.{table, IsMinimal}
use Rattle.gj_shape.specs.declared.faces.FaceKind.{FaceKind}
use Rattle.gj_shape.specs.declared.faces.FaceKind.TheVariants.{Vertex, Horizontal, Vertical, Diagonal, Lower, Upper}
use Rattle.gj_shape.proofs.TableLemmas.{slack_at, limits_are_slacks}
use Rattle.gj_theory.specs.Steps.{IsAdditiveAtTight}
use Rattle.gj_theory.proofs.Affine.{weighted, limit_count, slack_on_vertex, slack_on_horizontal, slack_on_vertical, slack_on_diagonal, slack_on_lower, slack_on_upper}
use Rattle.gj_theory.proofs.CornerSlacks.{sum_nonnegative, slack_low, one_weight, two_weights, three_weights}
use Rattle.gj_theory.proofs.MinimalFromTests.{Place, place_of}
use Rattle.gj_theory.proofs.MinimalFromTests.Place.{at_multiple, inside}

-- ---- weights above 0

-- numbers that are not negative are 0 if their sum is, each with a weight above 0
zero_terms : (ws : List ℕ) (xs : List ℤ) → All (λ w. 0 < w) ws → length xs ≤ length ws →
    All (λ x. pos 0 ≤ℤ x) xs → weighted ws xs ≡ pos 0 → All (λ x. x ≡ pos 0) xs
zero_terms ws [] some long h e = All-nil (λ x. x ≡ pos 0)
zero_terms [] (x ∷ xs) some long h e = absurd (omega arith)
zero_terms (w ∷ ws) (x ∷ xs) some long h e =
    let P = λ (y : ℤ). pos 0 ≤ℤ y in
    let w_some = All-head (λ v. 0 < v) w ws some in
    let first = mul_nonnegative_z (pos w) x (omega (arith, ints)) (All-head P x xs h) in
    let rest = sum_nonnegative ws xs (All-tail P x xs h) in
    All-cons (λ y. y ≡ pos 0) x xs (zero_factor_z w x w_some (omega (arith, ints)))
    (zero_terms ws xs (All-tail (λ v. 0 < v) w ws some) (omega arith) (All-tail P x xs h)
    (omega (arith, ints)))

-- ---- the corners of a face

-- what holds of the image of each element
all_images : {X : Type 0} (P : ℤ → Type 0) (g : X → ℤ) (xs : List X) → All P (map g xs) →
    All (λ x. P (g x)) xs
all_images P g [] h = All-nil (λ x. P (g x))
all_images P g (x ∷ xs) h =
    All-cons (λ y. P (g y)) x xs (All-head P (g x) (map g xs) h)
    (all_images P g xs (All-tail P (g x) (map g xs) h))

tight_from_slack : (f : FunctionData) (corner : ℕ × ℕ) → slack_at f corner ≡ pos 0 →
    IsTight f corner.0 corner.1
tight_from_slack f corner e = omega (arith, ints)

-- the slack at each corner is not negative
slacks_nonnegative : (f : FunctionData) → IsContinuous f → IsMinimal f →
    (kind : FaceKind) (a b : ℕ) →
    All (λ x. pos 0 ≤ℤ x) (limits_of f kind a b)
slacks_nonnegative f c h kind a b =
    subst (All (λ x. pos 0 ≤ℤ x)) (sym (limits_are_slacks f kind a b c))
    (All-map (λ x. pos 0 ≤ℤ x) (slack_at f) (corners_of kind a b) (λ k d below.
    slack_low f h (get_or (corners_of kind a b) k d)))

-- if the slack at a point of a face is 0, and the point has a weight above 0 at each corner, the
-- face is additive
additive_from_weights : (f : FunctionData) → IsContinuous f → IsMinimal f →
    (kind : FaceKind) (a b : ℕ) (ws : List ℕ) →
    All (λ w. 0 < w) ws → length (corners_of kind a b) ≤ length ws → (x y : ℤ) →
    x ≡ y +ℤ weighted ws (limits_of f kind a b) →
    x ≡ y → IsAdditive (IsTight f) kind a b
additive_from_weights f c h kind a b ws some long x y slack tight =
    let count = limit_count f kind a b in
    let zero_sum : weighted ws (limits_of f kind a b) ≡ pos 0 = omega (arith, ints) in
    let zeros =
    zero_terms ws (limits_of f kind a b) some (omega arith)
    (slacks_nonnegative f c h kind a b) zero_sum in
    let at_corners =
    all_images (λ x. x ≡ pos 0) (slack_at f) (corners_of kind a b)
    (subst (All (λ x. x ≡ pos 0)) (limits_are_slacks f kind a b c) zeros) in
    λ k d below. tight_from_slack f (get_or (corners_of kind a b) k d) (at_corners k d below)

-- ---- the face of a pair

-- the pair lies in the closure of an additive face
abbrev pub LiesInAdditiveFace : FunctionData → ℕ → ℕ → ℕ → Type 0
LiesInAdditiveFace f m i j =
    (kind : FaceKind) × (a : ℕ) × (b : ℕ) × IsInClosure f m kind a b i j
    × IsAdditive (IsTight f) kind a b

lies_in : (f : FunctionData) (m i j : ℕ) (kind : FaceKind) (a b : ℕ) → IsInFace m kind a b i j →
    IsAdditive (IsTight f) kind a b → LiesInAdditiveFace f m i j
lies_in f m i j kind a b closed additive = (kind, a, b, (i, j, refl, refl, closed), additive)

-- inside a square
tight_inside : (f : FunctionData) → IsContinuous f → IsMinimal f → (m i j a b r s : ℕ) →
    i ≡ a * m + r → j ≡ b * m + s →
    0 < r → r < m → 0 < s → s < m → IsTightOnGrid f m i j → LiesInAdditiveFace f m i j
tight_inside f c h m i j a b r s e g r_some r_low s_some s_low tight =
    elim (cases_order (r + s) m) [
      | inl whole ↦
          lies_in f m i j Diagonal a b (omega arith, omega arith, omega arith)
          (additive_from_weights f c h Diagonal a b (r ∷ s ∷ []) (two_weights r s r_some s_some)
          (omega arith) _ _
          (slack_on_diagonal f m i j a b r s e g whole r_some s_some) tight)
      | inr other ↦ elim other [
        | inl low ↦
            let w = m - (r + s) in
            lies_in f m i j Lower a b (omega arith, omega arith, omega arith)
            (additive_from_weights f c h Lower a b (w ∷ r ∷ s ∷ [])
            (three_weights w r s (omega arith) r_some s_some)
            (omega arith) _ _
            (slack_on_lower f m i j a b w r s e g (omega arith) (omega arith) r_some s_some) tight)
        | inr high ↦
            let u = m - s in
            let v = m - r in
            let w = r + s - m in
            lies_in f m i j Upper a b (omega arith, omega arith, omega arith)
            (additive_from_weights f c h Upper a b (u ∷ v ∷ w ∷ [])
            (three_weights u v w (omega arith) (omega arith) (omega arith)) (omega arith) _ _
            (slack_on_upper f m i j a b u v w (omega arith) (omega arith) (omega arith)
            (omega arith) (omega arith)
            (omega arith)) tight)
      ]
    ]

tight_in_square : (f : FunctionData) → IsContinuous f → IsMinimal f → (m i j a b : ℕ) → 0 < m →
    Place m i a → Place m j b → IsTightOnGrid f m i j → LiesInAdditiveFace f m i j
tight_in_square f c h m i j a b some (at_multiple e) (at_multiple g) tight =
    lies_in f m i j Vertex a b (e, g)
    (additive_from_weights f c h Vertex a b (m ∷ []) (one_weight m some) (omega arith) _ _
    (slack_on_vertex f m i j a b e g some) tight)
tight_in_square f c h m i j a b some (inside r u e whole u_some r_some) (at_multiple g) tight =
    lies_in f m i j Horizontal a b (omega arith, omega arith, g)
    (additive_from_weights f c h Horizontal a b (u ∷ r ∷ []) (two_weights u r u_some r_some)
    (omega arith) _ _
    (slack_on_horizontal f m i j a b u r e g whole u_some r_some) tight)
tight_in_square f c h m i j a b some (at_multiple e) (inside s v g whole v_some s_some) tight =
    lies_in f m i j Vertical a b (e, omega arith, omega arith)
    (additive_from_weights f c h Vertical a b (v ∷ s ∷ []) (two_weights v s v_some s_some)
    (omega arith) _ _
    (slack_on_vertical f m i j a b v s e g whole v_some s_some) tight)
tight_in_square f c h m i j a b some (inside r u e whole u_some low)
    (inside s v g sum v_some more) tight =
    tight_inside f c h m i j a b r s e g low (omega arith) more (omega arith) tight

pub tight_pair_in_face : (f : FunctionData) (m i j : ℕ) → IsWithinBounds f → IsContinuous f →
    IsMinimal f → 0 < m →
    IsTightOnGrid f m i j → LiesInAdditiveFace f m i j
tight_pair_in_face f m i j l c h some tight =
    tight_in_square f c h m i j (i / m) (j / m) some (place_of m i some) (place_of m j some) tight

-- what has the period of the grid and is additive on the closures of all additive faces is additive
-- at each tight pair
pub additive_from_faces : (f : FunctionData) (m : ℕ) (p : ℕ → ℤ) → IsWithinBounds f →
    IsContinuous f → IsMinimal f →
    0 < m → ((i : ℕ) → p (i + f.order * m) ≡ p i) →
    ((kind : FaceKind) (a b x y : ℕ) → IsAdditive (IsTight f) kind a b → IsInFace m kind a b x y →
    p x +ℤ p y ≡ p (x + y)) →
    IsAdditiveAtTight (table f m) (f.order * m) p
additive_from_faces f m p l c h some period on_faces = record {
  has_period = period;
  additive = λ i j tight. on_face i j (tight_pair_in_face f m i j l c h some tight);
}
  where
    n : ℕ
    n = f.order * m

    on_face : (i j : ℕ) → LiesInAdditiveFace f m i j → p i +ℤ p j ≡ p (i + j)
    on_face i j (kind, a, b, (x, y, e, g, closed), additive) =
        let same = same_at_remainder p n period in
        let sum : (x + y) % n ≡ (i + j) % n = add-mod x y n ∙ ap₂ (λ r s. (r + s) % n) e g
        ∙ sym (add-mod i j n) in
        ap₂ (λ v w. v +ℤ w) (sym (same x i e)) (sym (same y j g))
        ∙ on_faces kind a b x y additive closed
        ∙ same (x + y) (i + j) sum
