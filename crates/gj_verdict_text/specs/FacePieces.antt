-- Pieces of the lines of faces (own).
use Rattle.std.specs.Prelude.{ℕ, ◌≡◌, ◌<◌, List, ◌++◌, codes, decimal, length, take, get_or}
use Rattle.gj_shape.specs.declared.faces.Face.{Face}
use Rattle.gj_shape.specs.declared.faces.FaceKind.{FaceKind}
use Rattle.gj_shape.specs.WalkOrder.{position_of_kind}
use Rattle.gj_function_lines.specs.FunctionLines.{line}
use Rattle.gj_function_lines.specs.FaceLines.{face_word}
use Rattle.gj_verdict_text.specs.declared.piece.Piece.{Piece}
use Rattle.gj_verdict_text.specs.declared.face_lines.Starts.{Starts}

-- the text of a piece
abbrev pub text_of : Piece → List ℕ
text_of piece = take piece.length piece.bytes

-- the lines of the row's faces begin with these pieces
pub record AreStarts (starts : Starts) : Type 0 where
  pub count : length starts.pieces ≡ 6
  pub texts : (kind : FaceKind) (none : Piece) →
      text_of (get_or starts.pieces (position_of_kind kind) none) ≡ face_word kind ++ codes " "
      ++ decimal starts.row

-- the lines of the faces of each column end with its piece
abbrev pub AreEnds : List Piece → Type 0
AreEnds ends = (b : ℕ) (none : Piece) → b < length ends →
    text_of (get_or ends b none) ≡ line (codes " " ++ decimal b)

-- the face is of the row, and of a column with a piece
abbrev pub HasPieces : Starts → List Piece → Face → Type 0
HasPieces starts ends face = (face.a ≡ starts.row) × (face.b < length ends)
