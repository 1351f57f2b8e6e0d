-- Faces that link one interval to another (own).
use Rattle.std.specs.Prelude.{ℕ, ◌⊎◌, ◌<◌, Bool, IsTrue}
use Rattle.gj_shape.specs.declared.faces.FaceKind.{FaceKind}
use Rattle.gj_shape.specs.declared.faces.FaceKind.TheVariants.{Lower, Upper}
use Rattle.gj_cover.specs.FirstFound.{IsThis}
use Rattle.gj_limit_cover.specs.LimitCover.{LinksBy, IsAdditiveFace}

-- the face links i to j; with all its corners tight, if that is asked for
abbrev pub LinksAs : ℕ → (FaceKind → ℕ → ℕ → ℕ → Type 0) → Bool → ℕ → ℕ → FaceKind → ℕ → ℕ → Type 0
LinksAs q T asked i j kind a b =
    (IsTrue asked → IsAdditiveFace T kind a b) × LinksBy q T kind a b i j

-- the face is the one of this kind or the lower triangle of the square (a, b), or the upper
-- triangle of the square (c, d)
abbrev pub IsOneOfThree : FaceKind → ℕ → ℕ → ℕ → ℕ → FaceKind → ℕ → ℕ → Type 0
IsOneOfThree kind a b c d other e f =
    (IsThis kind a b other e f ⊎ IsThis Lower a b other e f) ⊎ IsThis Upper c d other e f

-- a face of a square of the complex of order q
abbrev pub IsSquareBelow : ℕ → FaceKind → ℕ → ℕ → Type 0
IsSquareBelow q kind a b = (a < q) × (b < q)
