-- The limits of the slack of a mirrored square are the same.
use Rattle.std.proofs.Common.{◌≡◌, ℕ, zero, suc, ◌+◌, ℤ, pos, ◌*ℤ◌, ◌<ℤ◌, ◌≤ℤ◌, List, get_or, ap, ◌∙◌, arith}
use Rattle.std.specs.List.{All, Contains}
use Rattle.std.proofs.lemmas.Int.{ints}
use Rattle.std.proofs.lemmas.List.Elements.{All-contains, All-contains_itself}
use Rattle.gj_shape.specs.Faces.{limits_of, slack_from}
use Rattle.gj_shape.specs.FunctionData.{FunctionData, at}
use Rattle.gj_shape.specs.declared.faces.FaceKind.{FaceKind}
use Rattle.gj_shape.specs.declared.faces.FaceKind.TheVariants.{Vertex, Horizontal, Vertical, Diagonal, Lower, Upper}
use Rattle.gj_theory.specs.CornerSlacks.{IsBelowCorners}
use Rattle.gj_limit_system.proofs.VertexSlacks.{mirror_kind}

exchanged : (x y s s' : ℤ) → s ≡ s' → slack_from y x s' ≡ slack_from x y s
exchanged x y s s' e = omega (arith, ints, e)

-- each limit of the one square is one of the other
pub has_limits : (f : FunctionData) (kind : FaceKind) (a b : ℕ) (z : ℤ) →
    Contains (limits_of f kind a b) z →
    Contains (limits_of f (mirror_kind kind) b a) z
has_limits f Vertex a b z (zero, low, e) = (
  0,
  omega arith,
  exchanged (at f.value a) (at f.value b) _ _ (ap (at f.value) (omega arith))
      ∙ e,
)
has_limits f Vertex a b z (suc k, low, e) = absurd (omega (arith, low))
has_limits f Horizontal a b z (zero, low, e) = (
  0,
  omega arith,
  exchanged (at f.right a) (at f.value b) _ _ (ap (at f.right) (omega arith))
      ∙ e,
)
has_limits f Horizontal a b z (suc zero, low, e) = (
  1,
  omega arith,
  exchanged (at f.left (a + 1)) (at f.value b) _ _ (ap (at f.left) (omega arith))
      ∙ e,
)
has_limits f Horizontal a b z (suc (suc k), low, e) = absurd (omega (arith, low))
has_limits f Vertical a b z (zero, low, e) = (
  0,
  omega arith,
  exchanged (at f.value a) (at f.right b) _ _ (ap (at f.right) (omega arith))
      ∙ e,
)
has_limits f Vertical a b z (suc zero, low, e) = (
  1,
  omega arith,
  exchanged (at f.value a) (at f.left (b + 1)) _ _ (ap (at f.left) (omega arith))
      ∙ e,
)
has_limits f Vertical a b z (suc (suc k), low, e) = absurd (omega (arith, low))
has_limits f Diagonal a b z (zero, low, e) = (
  1,
  omega arith,
  exchanged (at f.left (a + 1)) (at f.right b) _ _
      (ap (at f.value) (omega arith)) ∙ e,
)
has_limits f Diagonal a b z (suc zero, low, e) = (
  0,
  omega arith,
  exchanged (at f.right a) (at f.left (b + 1)) _ _
      (ap (at f.value) (omega arith)) ∙ e,
)
has_limits f Diagonal a b z (suc (suc k), low, e) = absurd (omega (arith, low))
has_limits f Lower a b z (zero, low, e) = (
  0,
  omega arith,
  exchanged (at f.right a) (at f.right b) _ _ (ap (at f.right) (omega arith))
      ∙ e,
)
has_limits f Lower a b z (suc zero, low, e) = (
  2,
  omega arith,
  exchanged (at f.left (a + 1)) (at f.right b) _ _ (ap (at f.left) (omega arith))
      ∙ e,
)
has_limits f Lower a b z (suc (suc zero), low, e) = (
  1,
  omega arith,
  exchanged (at f.right a) (at f.left (b + 1)) _ _ (ap (at f.left) (omega arith))
      ∙ e,
)
has_limits f Lower a b z (suc (suc (suc k)), low, e) = absurd (omega (arith, low))
has_limits f Upper a b z (zero, low, e) = (
  1,
  omega arith,
  exchanged (at f.left (a + 1)) (at f.right b) _ _
      (ap (at f.right) (omega arith)) ∙ e,
)
has_limits f Upper a b z (suc zero, low, e) = (
  0,
  omega arith,
  exchanged (at f.right a) (at f.left (b + 1)) _ _
      (ap (at f.right) (omega arith)) ∙ e,
)
has_limits f Upper a b z (suc (suc zero), low, e) = (
  2,
  omega arith,
  exchanged (at f.left (a + 1)) (at f.left (b + 1)) _ _
      (ap (at f.left) (omega arith)) ∙ e,
)
has_limits f Upper a b z (suc (suc (suc k)), low, e) = absurd (omega (arith, low))

-- a property of all members of a list is one of all members of a part of it
pub all_within : (P : ℤ → Type 0) (xs ys : List ℤ) → ((z : ℤ) → Contains ys z → Contains xs z) →
    All P xs → All P ys
all_within P xs ys part all k d below =
    All-contains P xs (get_or ys k d) all (part (get_or ys k d) (All-contains_itself ys k d below))

-- a bound of the limits of the one square is one of those of the other
pub mirrored_below : (f : FunctionData) (m u : ℕ) (kind : FaceKind) (a b : ℕ) →
    IsBelowCorners m u (limits_of f (mirror_kind kind) b a) →
    IsBelowCorners m u (limits_of f kind a b)
mirrored_below f m u kind a b h =
    let part = has_limits f kind a b in
    let xs = limits_of f (mirror_kind kind) b a in
    let ys = limits_of f kind a b in
    record {
      each = all_within (λ x. pos 0 <ℤ x → pos u ≤ℤ (pos m *ℤ x)) xs ys part h.each;
      beside_zero = λ zero_in.
          all_within (λ x. pos 0 <ℤ x → pos u ≤ℤ x) xs ys part
          (h.beside_zero (part (pos 0) zero_in));
    }
