-- The least positive limit of the slack on a finer grid, from the limits at the corners of faces
-- (own).
use Rattle.std.specs.Prelude.{ℕ, ℤ, pos, ◌≡◌, ◌⊎◌, ◌*◌, ◌<◌, List, Contains}
use Rattle.gj_shape.specs.Faces.{limits_of}
use Rattle.gj_shape.specs.FunctionData.{FunctionData}
use Rattle.gj_shape.specs.declared.faces.FaceKind.{FaceKind}
use Rattle.gj_theory.specs.CornerSlacks.{IsBelowCorners}

-- u is a positive number beside a number 0, or m times a positive number
pub record IsFromCorners (m u : ℕ) (slacks : List ℤ) : Type 0 where
  pub some : 0 < u
  pub from : (Contains slacks (pos 0) × Contains slacks (pos u))
      ⊎ ((x : ℕ) × Contains slacks (pos x) × (u ≡ m * x))

-- so is u from the limits at the corners of some face, and no such number is less: it is the least
-- positive limit of the slack on the grid of order m times the function's
pub record IsLeastLimit (f : FunctionData) (m u : ℕ) : Type 0 where
  pub kind : FaceKind
  pub a : ℕ
  pub b : ℕ
  pub first_within : a < f.order
  pub second_within : b < f.order
  pub reached : IsFromCorners m u (limits_of f kind a b)
  pub least : (kind : FaceKind) (a b : ℕ) → a < f.order → b < f.order →
      IsBelowCorners m u (limits_of f kind a b)
