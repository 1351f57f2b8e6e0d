-- What is known of the tight corners of a function: indices are read modulo the order, and x and y
-- may be exchanged.
use Rattle.std.proofs.Common.{◌≡◌, ℕ, ◌+◌, ◌%◌, ℤ, pos, List, [], ◌∷◌, get_or, ap, ap₂, subst, arith}
use Rattle.std.proofs.lemmas.Int.{ints}
use Rattle.gj_shape.specs.Faces.{limits_of, slack_from}
use Rattle.gj_shape.specs.FunctionData.{FunctionData, IsWithinBounds, at}
use Rattle.gj_shape.specs.declared.faces.FaceKind.{FaceKind}
use Rattle.gj_shape.specs.declared.faces.FaceKind.TheVariants.{Horizontal, Vertical, Lower, Upper}
use Rattle.gj_jumps.specs.LimitCover.{IsTightAt}
use Rattle.gj_jumps.proofs.CoverDecided.{tight_reduced}

pub record IsComplex (q : ℕ) (T : FaceKind → ℕ → ℕ → ℕ → Type 0) : Type 0 where
  pub reduced : (kind : FaceKind) (a b c : ℕ) → T kind a b c → T kind (a % q) (b % q) c
  pub upright : (a b c : ℕ) → T Vertical a b c → T Horizontal b a c
  pub lower_first : (a b : ℕ) → T Lower a b 0 → T Lower b a 0
  pub lower_third : (a b : ℕ) → T Lower a b 2 → T Lower b a 1
  pub upper_first : (a b : ℕ) → T Upper a b 0 → T Upper b a 1
  pub upper_third : (a b : ℕ) → T Upper a b 2 → T Upper b a 2

turned_slack : (xs ys zs : List ℤ) (a b s t : ℕ) → s ≡ t →
    slack_from (at xs a) (at ys b) (at zs s) ≡ slack_from (at ys b) (at xs a) (at zs t)
turned_slack xs ys zs a b s t e = let same = ap (at zs) e in omega (arith, ints)

upright_limits : (f : FunctionData) (a b : ℕ) →
    limits_of f Vertical a b ≡ limits_of f Horizontal b a
upright_limits f a b =
    ap₂ (λ (x y : ℤ). x ∷ y ∷ [])
    (turned_slack f.value f.right f.right a b (a + b) (b + a) (omega arith))
    (turned_slack f.value f.left f.left a (b + 1) (a + b + 1) (b + a + 1) (omega arith))

pub complex_of : (f : FunctionData) → IsWithinBounds f → IsComplex f.order (IsTightAt f)
complex_of f bounds = record {
  reduced = λ kind a b c t. tight_reduced f bounds kind a b c t;
  upright = λ a b c t. subst (λ xs. get_or xs c (pos 1) ≡ pos 0) (upright_limits f a b) t;
  lower_first = λ a b t.
      subst (λ x. x ≡ pos 0) (turned_slack f.right f.right f.right a b (a + b) (b + a)
      (omega arith)) t;
  lower_third = λ a b t.
      subst (λ x. x ≡ pos 0)
      (turned_slack f.right f.left f.left a (b + 1) (a + b + 1) (b + a + 1) (omega arith)) t;
  upper_first = λ a b t.
      subst (λ x. x ≡ pos 0)
      (turned_slack f.left f.right f.right (a + 1) b (a + b + 1) (b + a + 1) (omega arith)) t;
  upper_third = λ a b t.
      subst (λ x. x ≡ pos 0)
      (turned_slack f.left f.left f.left (a + 1) (b + 1) (a + b + 1 + 1) (b + a + 1 + 1)
      (omega arith)) t;
}
