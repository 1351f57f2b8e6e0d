-- The corners of a face.
use Rattle.std.proofs.Common.{◌≡◌, ℕ, length, refl}
use Rattle.gj_shape.specs.Faces.{corners_of}
use Rattle.gj_shape.specs.declared.faces.FaceKind.{FaceKind}
use Rattle.gj_shape.specs.declared.faces.FaceKind.TheVariants.{Vertex, Horizontal, Vertical, Diagonal, Lower, Upper}

-- how many there are goes by the kind
pub corner_count : (kind : FaceKind) (a b : ℕ) →
    length (corners_of kind a b) ≡ length (corners_of kind 0 0)
corner_count Vertex a b = refl
corner_count Horizontal a b = refl
corner_count Vertical a b = refl
corner_count Diagonal a b = refl
corner_count Lower a b = refl
corner_count Upper a b = refl
