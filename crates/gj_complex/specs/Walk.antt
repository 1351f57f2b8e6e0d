-- The faces of the complex in walk order (own).
use Rattle.std.specs.Prelude.{ℕ, ◌+◌, ◌-◌, ◌<◌, Option, Some, None, List, [], ◌∷◌, ◌++◌, flat_map}
use Rattle.std.specs.List.{range_with_len}
pub use Rattle.gj_shape.specs.WalkOrder.{faces_in, faces_of_square, faces_of}
use Rattle.gj_shape.specs.declared.faces.Face.{Face}
use Rattle.gj_shape.specs.declared.faces.FaceKind.{FaceKind}
use Rattle.gj_shape.specs.declared.faces.FaceKind.TheVariants.{Vertex, Horizontal, Vertical, Diagonal, Lower, Upper}

-- the kinds that come after a kind
abbrev pub kinds_after : FaceKind → List FaceKind
kinds_after Vertex = Horizontal ∷ Vertical ∷ Diagonal ∷ Lower ∷ Upper ∷ []
kinds_after Horizontal = Vertical ∷ Diagonal ∷ Lower ∷ Upper ∷ []
kinds_after Vertical = Diagonal ∷ Lower ∷ Upper ∷ []
kinds_after Diagonal = Lower ∷ Upper ∷ []
kinds_after Lower = Upper ∷ []
kinds_after Upper = []

-- a kind and the kinds after it, or none
abbrev pub kinds_from : Option FaceKind → List FaceKind
kinds_from (Some kind) = kind ∷ kinds_after kind
kinds_from None = []

-- the faces of the row a from the square (a, b) on
abbrev pub row_from : ℕ → ℕ → ℕ → List Face
row_from q a b = flat_map (faces_of_square a) (range_with_len b (q - b))

-- the faces of the rows from a on
abbrev pub face_rows_from : ℕ → ℕ → List Face
face_rows_from q a = flat_map (λ a. row_from q a 0) (range_with_len a (q - a))

-- the faces after a face in walk order
abbrev pub faces_after : ℕ → Face → List Face
faces_after q face =
    faces_in (kinds_after face.kind) face.a face.b ++ row_from q face.a (face.b + 1)
    ++ face_rows_from q (face.a + 1)

-- a face and the faces after it, or none
abbrev pub faces_from : ℕ → Option Face → List Face
faces_from q (Some face) = face ∷ faces_after q face
faces_from q None = []

-- the face lies in a square of the complex of order q
pub record IsFaceOf (q : ℕ) (face : Face) : Type 0 where
  pub first : face.a < q
  pub second : face.b < q
