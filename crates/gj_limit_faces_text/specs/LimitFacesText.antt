-- The text of the maximal additive faces and the covered intervals of a function that may jump, by
-- the limits of its slack (Light on the Infinite Group Relaxation I and II; Equivariant Perturbation
-- I; the form is own).
use Rattle.std.specs.Prelude.{ℕ, ◌≡◌, List, ◌++◌, All, codes, flat_map}
use Rattle.std.specs.List.{range_with_len}
use Rattle.gj_shape.specs.FunctionData.{FunctionData}
use Rattle.gj_shape.specs.Additive.{border_of, IsSameFace}
use Rattle.gj_shape.specs.WalkOrder.{faces_of}
use Rattle.gj_shape.specs.declared.faces.Face.{Face}
use Rattle.gj_shape.specs.declared.faces.FaceKind.{FaceKind}
use Rattle.gj_shape.specs.declared.extremality.CoverLine.{CoverLine}
use Rattle.gj_faces.specs.Picked.{ArePicked}
use Rattle.gj_jumps.specs.LimitCover.{IsTightAt}
use Rattle.gj_limit_cover.specs.LimitCover.{IsAdditiveFace, IsCovered, AreCoverLines}
use Rattle.gj_function_lines.specs.FunctionLines.{line, order_line}
use Rattle.gj_function_lines.specs.FaceLines.{face_text, cover_line}
use Rattle.gj_verdict_text.specs.FacesText.{uncovered_line}

-- seen from inside the face, the slack tends to 0 at all its corners, and so it is 0 on it
abbrev pub IsAdditiveIn : FunctionData → FaceKind → ℕ → ℕ → Type 0
IsAdditiveIn f kind a b = IsAdditiveFace (IsTightAt f) kind a b

-- the face is such a one, and is in the border of no such face of higher dimension
pub record IsMaximalByLimits (f : FunctionData) (face : Face) : Type 0 where
  pub additive : IsAdditiveIn f face.kind face.a face.b
  pub maximal : (kind : FaceKind) (a b : ℕ) → IsAdditiveIn f kind a b →
      All (λ other. IsSameFace f.order other (face.kind, face.a, face.b) → ⊥) (border_of kind a b)

-- the text lists these faces in walk order, the cover lines, and the uncovered intervals, ascending
pub record IsLimitFacesText (f : FunctionData) (text : List ℕ) : Type 0 where
  pub listed : List Face
  pub maximal : ArePicked (IsMaximalByLimits f) (faces_of f.order) listed
  pub lines : List CoverLine
  pub cover : AreCoverLines f.order (IsTightAt f) lines
  pub intervals : List ℕ
  pub uncovered : ArePicked (λ i. IsCovered f.order (IsTightAt f) i → ⊥)
      (range_with_len 0 f.order) intervals
  pub spelled : text ≡ line (codes "gj-faces 1") ++ order_line f.order
      ++ flat_map (λ face. line (face_text face)) listed
      ++ flat_map cover_line lines
      ++ flat_map uncovered_line intervals
      ++ line (codes "end")
