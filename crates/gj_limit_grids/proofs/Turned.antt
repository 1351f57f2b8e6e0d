-- The limits at the corners of a face are those of the face with indices below the order.
use Rattle.std.proofs.Common.{◌≡◌, ℕ, ◌%◌, List, [], ◌∷◌, map, refl, sym, ap, ap₂, ◌∙◌}
use Rattle.gj_shape.specs.Faces.{limits_of}
use Rattle.gj_shape.specs.FunctionData.{FunctionData, IsWithinBounds}
use Rattle.gj_shape.specs.declared.faces.FaceKind.{FaceKind}
use Rattle.gj_shape.specs.declared.faces.FaceKind.TheVariants.{Vertex, Horizontal, Vertical, Diagonal, Lower, Upper}
use Rattle.gj_jumps.proofs.Terms.{Sum, sums_of, reduced_sum, sums_reduced, whole_sum, whole_reduced}

limits_are : (f : FunctionData) (kind : FaceKind) (a b : ℕ) →
    limits_of f kind a b ≡ map (whole_sum f) (sums_of kind a b)
limits_are f Vertex a b = refl
limits_are f Horizontal a b = refl
limits_are f Vertical a b = refl
limits_are f Diagonal a b = refl
limits_are f Lower a b = refl
limits_are f Upper a b = refl

module _ (f : FunctionData) (bounds : IsWithinBounds f) where
  sums_same : (ts : List Sum) →
      map (whole_sum f) (map (reduced_sum f.order) ts) ≡ map (whole_sum f) ts
  sums_same [] = refl
  sums_same (t ∷ ts) = ap₂ (λ x xs. x ∷ xs) (whole_reduced f bounds t) (sums_same ts)

  by_rests : (kind : FaceKind) (a b : ℕ) →
      limits_of f kind a b ≡ map (whole_sum f) (map (reduced_sum f.order) (sums_of kind a b))
  by_rests kind a b = limits_are f kind a b ∙ sym (sums_same (sums_of kind a b))

  pub limits_turned : (kind : FaceKind) (a b : ℕ) →
      limits_of f kind a b ≡ limits_of f kind (a % f.order) (b % f.order)
  limits_turned kind a b =
      by_rests kind a b ∙ ap (map (whole_sum f)) (sums_reduced f.order kind a b)
      ∙ sym (by_rests kind (a % f.order) (b % f.order))
