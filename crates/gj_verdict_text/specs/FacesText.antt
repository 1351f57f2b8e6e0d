-- The text of the maximal additive faces and the covered intervals of a function (Light on the
-- Infinite Group Relaxation I and II; the form is own).
use Rattle.std.specs.Prelude.{ℕ, ◌≡◌, Option, None, List, ◌++◌, codes, decimal, flat_map}
use Rattle.std.specs.List.{range_with_len}
use Rattle.gj_shape.specs.FunctionData.{FunctionData}
use Rattle.gj_shape.specs.Additive.{IsTight}
use Rattle.gj_shape.specs.Cover.{AreCoverLines, IsCovered}
use Rattle.gj_shape.specs.declared.faces.Face.{Face}
use Rattle.gj_shape.specs.declared.extremality.CoverLine.{CoverLine}
use Rattle.gj_faces.specs.Picked.{ArePicked}
use Rattle.gj_faces.specs.Added.{faces_of_row}
use Rattle.gj_faces.specs.Listed.{AreMaximalFaces, IsMaximalIn}
use Rattle.gj_cover.specs.CoverOf.{number_at}
use Rattle.gj_function_lines.specs.FunctionLines.{line, order_line}
use Rattle.gj_function_lines.specs.FaceLines.{face_text, cover_line}

-- the line of an uncovered interval
abbrev pub uncovered_line : ℕ → List ℕ
uncovered_line i = line (codes "uncovered " ++ decimal i)

-- behind a text stand the lines of the intervals below n without a component, ascending
pub record ArePushed (component : List (Option ℕ)) (n : ℕ) (old new : List ℕ) : Type 0 where
  pub intervals : List ℕ
  pub picked : ArePicked (λ i. number_at component i ≡ None) (range_with_len 0 n) intervals
  pub pushed : new ≡ old ++ flat_map uncovered_line intervals

-- behind a text stand the lines of the maximal additive faces of the first n rows of squares, in
-- walk order
pub record AreRowsPushed (f : FunctionData) (n : ℕ) (old new : List ℕ) : Type 0 where
  pub faces : List Face
  pub picked : ArePicked (IsMaximalIn f) (flat_map (faces_of_row f.order) (range_with_len 0 n))
      faces
  pub pushed : new ≡ old ++ flat_map (λ face. line (face_text face)) faces

-- the text lists the maximal additive faces in walk order, the cover lines, and the uncovered
-- intervals, ascending
pub record IsFacesText (f : FunctionData) (text : List ℕ) : Type 0 where
  pub listed : List Face
  pub maximal : AreMaximalFaces f listed
  pub lines : List CoverLine
  pub cover : AreCoverLines f.order (IsTight f) lines
  pub intervals : List ℕ
  pub uncovered : ArePicked (λ i. IsCovered f.order (IsTight f) i → ⊥)
      (range_with_len 0 f.order) intervals
  pub spelled : text ≡ line (codes "gj-faces 1") ++ order_line f.order
      ++ flat_map (λ face. line (face_text face)) listed
      ++ flat_map cover_line lines
      ++ flat_map uncovered_line intervals
      ++ line (codes "end")
