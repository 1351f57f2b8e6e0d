-- What is at most the positive limits at the corners of faces is at most those on the finer grid.
use Rattle.std.proofs.Common.{◌≡◌, ℕ, zero, suc, ◌⊎◌, inl, inr, ◌+◌, ◌%◌, ◌<◌, ℤ, pos, ◌+ℤ◌, ◌*ℤ◌, ◌<ℤ◌, ◌≤ℤ◌, List, [], ◌∷◌, length, All, Contains, refl, sym, ap, subst, ◌∙◌, arith}
use Rattle.std.proofs.Math.Nat.{mod-lt}
use Rattle.std.proofs.lemmas.Int.{ints, by_lt_z}
use Rattle.std.proofs.lemmas.List.Elements.{All-nil, All-cons, All-head, All-tail, All-from_get_or}
use Rattle.gj_lemmas.proofs.Integers.{mul_nonnegative_z, mul_le_mul_left_z, mul_le_cancel_right_z, mul_comm_z}
use Rattle.gj_lemmas.proofs.Ring.{by_ring, ring}
use Rattle.gj_shape.specs.Faces.{corners_of, limits_of}
use Rattle.gj_shape.specs.FunctionData.{FunctionData, IsWithinBounds}
use Rattle.gj_shape.specs.Table.{IsMinimal}
use Rattle.gj_shape.specs.declared.faces.FaceKind.{FaceKind}
use Rattle.gj_shape.specs.declared.faces.FaceKind.TheVariants.{Vertex, Horizontal, Vertical, Diagonal, Lower, Upper}
use Rattle.gj_theory.specs.CornerSlacks.{IsBelowCorners}
use Rattle.gj_theory.proofs.Affine.{weighted, limit_count}
use Rattle.gj_theory.proofs.CornerSlacks.{sum_nonnegative}
use Rattle.gj_theory.proofs.TestsFromMinimal.{slack_limit}
use Rattle.gj_jumps.specs.LimitSystem.{Limits}
use Rattle.gj_limit_grids.specs.Grids.{IsBelowLimits, limits_on}
use Rattle.gj_limit_grids.proofs.FaceWeights.{IsFromFace, IsLimit, limit_at}
use Rattle.gj_limit_grids.proofs.FaceWeights.IsFromFace.{vertex, horizontal, vertical, diagonal, lower, upper}
use Rattle.gj_limit_grids.proofs.FaceWeights.IsLimit.{at_point, beyond}
use Rattle.gj_limit_grids.proofs.Turned.{limits_turned}

-- ---- sums by weights of numbers that are not negative

-- the sum of the weights
abbrev whole_weight : List ℕ → ℕ
whole_weight [] = 0
whole_weight (w ∷ ws) = w + whole_weight ws

weights_sum : (w n : ℕ) (u : ℤ) → pos (w + n) *ℤ u ≡ pos w *ℤ u +ℤ pos n *ℤ u
weights_sum w n u = by_ring (pos w ∷ pos n ∷ u ∷ []) (search ring depth 20) refl

scaled_sum : (m w : ℕ) (x y : ℤ) → pos m *ℤ (pos w *ℤ x +ℤ y) ≡ pos w *ℤ (pos m *ℤ x) +ℤ pos m *ℤ y
scaled_sum m w x y = by_ring (pos m ∷ pos w ∷ x ∷ y ∷ []) (search ring depth 20) refl

-- m times each number is at least u
all_large : (m : ℕ) (u : ℤ) (ws : List ℕ) (xs : List ℤ) → length xs ≡ length ws →
    All (λ x. u ≤ℤ (pos m *ℤ x)) xs → (pos (whole_weight ws) *ℤ u) ≤ℤ (pos m *ℤ weighted ws xs)
all_large m u [] xs len h = omega (arith, ints)
all_large m u (w ∷ ws) [] len h = absurd (omega arith)
all_large m u (w ∷ ws) (x ∷ xs) len h =
    let P = λ (y : ℤ). u ≤ℤ (pos m *ℤ y) in
    let here = All-head P x xs h in
    let first = mul_le_mul_left_z u (pos m *ℤ x) (pos w) (omega (arith, ints)) here in
    let rest = all_large m u ws xs (omega arith) (All-tail P x xs h) in
    let left : pos (whole_weight (w ∷ ws)) *ℤ u ≡ pos w *ℤ u +ℤ pos (whole_weight ws) *ℤ u =
    weights_sum w (whole_weight ws) u in
    let right : pos m *ℤ weighted (w ∷ ws) (x ∷ xs)
    ≡ pos w *ℤ (pos m *ℤ x) +ℤ pos m *ℤ weighted ws xs = scaled_sum m w x (weighted ws xs) in
    omega (arith, ints)

-- a positive product is at least its second factor
at_least_once : (w : ℕ) (x : ℤ) → pos 0 ≤ℤ x → pos 0 <ℤ (pos w *ℤ x) →
    (pos 0 <ℤ x) × (x ≤ℤ (pos w *ℤ x))
at_least_once zero x low positive = absurd (omega (arith, ints))
at_least_once (suc w) x low positive =
    let more = mul_nonnegative_z (pos w) x (omega (arith, ints)) low in
    let whole : pos (suc w) *ℤ x ≡ x +ℤ pos w *ℤ x =
    by_ring (pos w ∷ x ∷ []) (search ring depth 20) refl in
    by_lt_z (pos 0) x (λ above. (above, omega (arith, ints)))
    (λ none.
    let zero_x : x ≡ pos 0 = omega (arith, ints) in
    let nothing : pos w *ℤ x ≡ pos 0 = ap (λ y. pos w *ℤ y) zero_x ∙ omega (arith, ints) in
    absurd (omega (arith, ints)))

-- the numbers above 0 are at least u
some_large : (u : ℤ) (ws : List ℕ) (xs : List ℤ) → All (λ x. pos 0 ≤ℤ x) xs →
    All (λ x. pos 0 <ℤ x → u ≤ℤ x) xs → pos 0 <ℤ weighted ws xs → u ≤ℤ weighted ws xs
some_large u [] xs low h positive = absurd (omega (arith, ints))
some_large u (w ∷ ws) [] low h positive = absurd (omega (arith, ints))
some_large u (w ∷ ws) (x ∷ xs) low h positive =
    let P = λ (y : ℤ). pos 0 ≤ℤ y in
    let Q = λ (y : ℤ). pos 0 <ℤ y → u ≤ℤ y in
    let here = All-head P x xs low in
    let first = mul_nonnegative_z (pos w) x (omega (arith, ints)) here in
    by_lt_z (pos 0) (pos w *ℤ x)
    (λ above.
    let once = at_least_once w x here above in
    let large = All-head Q x xs h once.0 in
    let rest = sum_nonnegative ws xs (All-tail P x xs low) in
    omega (arith, ints, once.1))
    (λ none.
    let rest = some_large u ws xs (All-tail P x xs low) (All-tail Q x xs h) (omega (arith, ints)) in
    omega (arith, ints))

zero_or_positive : (xs : List ℤ) → All (λ x. pos 0 ≤ℤ x) xs →
    Contains xs (pos 0) ⊎ All (λ x. pos 0 <ℤ x) xs
zero_or_positive [] h = inr (All-nil (λ x. pos 0 <ℤ x))
zero_or_positive (x ∷ xs) h =
    let P = λ (y : ℤ). pos 0 ≤ℤ y in
    let here = All-head P x xs h in
    by_lt_z (pos 0) x
    (λ above. elim (zero_or_positive xs (All-tail P x xs h)) [
      | inl found ↦ inl (suc found.0, (let below = found.1 in omega arith), found.2)
      | inr all ↦ inr (All-cons (λ y. pos 0 <ℤ y) x xs above all)
    ])
    (λ none. inl (0, omega arith, let e : x ≡ pos 0 = omega (arith, ints) in e))

-- weights that add up to m
from_weights : (m u : ℕ) (ws : List ℕ) (xs : List ℤ) → 0 < m → length xs ≡ length ws →
    whole_weight ws ≡ m → All (λ x. pos 0 ≤ℤ x) xs → IsBelowCorners m u xs →
    pos 0 <ℤ weighted ws xs → pos u ≤ℤ weighted ws xs
from_weights m u ws xs some len whole low h positive =
    elim (zero_or_positive xs low) [
      | inl tight ↦ some_large (pos u) ws xs low (h.beside_zero tight) positive
      | inr all ↦
          let each = λ (k : ℕ) (d : ℤ) (below : k < length xs). h.each k d below (all k d below) in
          let large = all_large m (pos u) ws xs len each in
          let left : pos (whole_weight ws) *ℤ pos u ≡ pos u *ℤ pos m =
          ap (λ n. pos n *ℤ pos u) whole ∙ mul_comm_z (pos m) (pos u) in
          let right : pos m *ℤ weighted ws xs ≡ weighted ws xs *ℤ pos m =
          mul_comm_z (pos m) (weighted ws xs) in
          mul_le_cancel_right_z (pos u) (weighted ws xs) (pos m) (omega (arith, ints))
          (omega (arith, ints))
    ]

-- ---- the limits at the corners of a face

pub limits_low : (f : FunctionData) → IsMinimal f → (kind : FaceKind) (a b : ℕ) →
    All (λ x. pos 0 ≤ℤ x) (limits_of f kind a b)
limits_low f minimal kind a b =
    All-from_get_or (λ x. pos 0 ≤ℤ x) (limits_of f kind a b) (pos 0) (λ c below.
    slack_limit f minimal kind a b c (subst (λ n. c < n) (limit_count f kind a b) below))

module _ (f : FunctionData) (m u : ℕ) (bounds : IsWithinBounds f) (minimal : IsMinimal f)
    (some : 0 < m)
    (h : (kind : FaceKind) (a b : ℕ) → a < f.order → b < f.order →
    IsBelowCorners m u (limits_of f kind a b)) where
  below_corners : (kind : FaceKind) (a b : ℕ) → IsBelowCorners m u (limits_of f kind a b)
  below_corners kind a b =
      let any : 0 < f.order = omega (arith, bounds.order_low) in
      subst (IsBelowCorners m u) (sym (limits_turned f bounds kind a b))
      (h kind (a % f.order) (b % f.order) (mod-lt a any) (mod-lt b any))

  by_weights : (kind : FaceKind) (a b : ℕ) (ws : List ℕ) (x : ℤ) →
      length (corners_of kind a b) ≡ length ws → whole_weight ws ≡ m →
      x ≡ weighted ws (limits_of f kind a b) → pos 0 <ℤ x → pos u ≤ℤ x
  by_weights kind a b ws x len whole is positive =
      subst (λ y. pos u ≤ℤ y) (sym is)
      (from_weights m u ws (limits_of f kind a b) some (limit_count f kind a b ∙ len) whole
      (limits_low f minimal kind a b) (below_corners kind a b)
      (subst (λ y. pos 0 <ℤ y) is positive))

  on_face : (x y : ℕ) (limit : ℤ) → IsFromFace f m x y limit → pos 0 <ℤ limit → pos u ≤ℤ limit
  on_face x y limit (vertex a b e g is) = by_weights Vertex a b (m ∷ []) limit refl (omega arith) is
  on_face x y limit (horizontal a b v r whole e g is) =
      by_weights Horizontal a b (v ∷ r ∷ []) limit refl (omega arith) is
  on_face x y limit (vertical a b v s whole e g is) =
      by_weights Vertical a b (v ∷ s ∷ []) limit refl (omega arith) is
  on_face x y limit (diagonal a b r s whole e g is) =
      by_weights Diagonal a b (r ∷ s ∷ []) limit refl (omega arith) is
  on_face x y limit (lower a b w r s whole e g is) =
      by_weights Lower a b (w ∷ r ∷ s ∷ []) limit refl (omega arith) is
  on_face x y limit (upper a b v w t whole e g is) =
      by_weights Upper a b (v ∷ w ∷ t ∷ []) limit refl (omega arith) is

  at_limit : (limit : Limits ℤ → ℤ) → IsLimit f m some limit → pos 0 <ℤ limit (limits_on f m) →
      pos u ≤ℤ limit (limits_on f m)
  at_limit limit (at_point x y face same) positive =
      on_face x y (limit (limits_on f m)) face positive
  at_limit limit (beyond none) positive =
      let nothing = none (limits_on f m) in absurd (omega (arith, ints))

  pub below_limits : 0 < u → IsBelowLimits f m u
  below_limits u_some = record {
    some = u_some;
    below = λ kind i j c. at_limit _ (limit_at f m some kind i j c);
  }
