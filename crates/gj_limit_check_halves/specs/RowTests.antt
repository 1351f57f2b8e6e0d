-- The limits of the slack in rows of squares (own).
use Rattle.std.specs.Prelude.{ℕ, pos, ◌≤◌, ◌<◌, ◌≤ℤ◌, length}
use Rattle.gj_shape.specs.Faces.{corners_of}
use Rattle.gj_shape.specs.FirstViolation.{Passes}
use Rattle.gj_shape.specs.FirstViolation.Test.{subadditive_at}
use Rattle.gj_shape.specs.FunctionData.{FunctionData}
use Rattle.gj_shape.specs.declared.faces.FaceKind.{FaceKind}
use Rattle.gj_limit_faces.specs.Terms.{limit_by}
use Rattle.gj_limit_faces.specs.declared.terms.Terms.{Terms}

-- no limit of the slack that the terms make in a square (a, b) is negative, for b from a on
abbrev pub PassesTerms : FunctionData → Terms → ℕ → Type 0
PassesTerms f t a = (b : ℕ) → a ≤ b → b < f.order → pos 0 ≤ℤ limit_by f t a b

-- none is at this corner of the faces of this kind
abbrev pub PassesCorner : FunctionData → FaceKind → ℕ → ℕ → Type 0
PassesCorner f kind a corner = (b : ℕ) → a ≤ b → b < f.order →
    Passes f (subadditive_at kind a b corner)

-- none is at any corner of them
abbrev pub PassesKind : FunctionData → FaceKind → ℕ → Type 0
PassesKind f kind a = (corner : ℕ) → corner < length (corners_of kind 0 0) →
    PassesCorner f kind a corner
