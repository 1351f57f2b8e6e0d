-- Lines of faces behind a text (own).
use Rattle.std.specs.Prelude.{ℕ, ◌≡◌, List, ◌++◌, flat_map}
use Rattle.gj_shape.specs.FunctionData.{FunctionData}
use Rattle.gj_shape.specs.declared.faces.Face.{Face}
use Rattle.gj_faces.specs.Picked.{ArePicked}
use Rattle.gj_function_lines.specs.FunctionLines.{line}
use Rattle.gj_function_lines.specs.FaceLines.{face_text}
use Rattle.gj_limit_faces_text.specs.LimitFacesText.{IsMaximalByLimits}

-- behind a text stand the lines of those of these faces that are maximal, in their order
pub record AppendsMaximal (f : FunctionData) (faces : List Face) (old new : List ℕ) : Type 0 where
  pub listed : List Face
  pub picked : ArePicked (IsMaximalByLimits f) faces listed
  pub appended : new ≡ old ++ flat_map (λ face. line (face_text face)) listed
