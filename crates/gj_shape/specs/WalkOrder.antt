-- All faces of the complex in walk order (own).
use Rattle.std.specs.Prelude.{ℕ, List, [], ◌∷◌, map, flat_map}
use Rattle.std.specs.List.{range_with_len}
use Rattle.gj_shape.specs.declared.faces.Face.{Face}
use Rattle.gj_shape.specs.declared.faces.FaceKind.{FaceKind}
use Rattle.gj_shape.specs.declared.faces.FaceKind.TheVariants.{Vertex, Horizontal, Vertical, Diagonal, Lower, Upper}

-- the position of a kind among the faces of one square, from 0
abbrev pub position_of_kind : FaceKind → ℕ
position_of_kind Vertex = 0
position_of_kind Horizontal = 1
position_of_kind Vertical = 2
position_of_kind Diagonal = 3
position_of_kind Lower = 4
position_of_kind Upper = 5

-- the faces of these kinds of the square (a, b)
abbrev pub faces_in : List FaceKind → ℕ → ℕ → List Face
faces_in kinds a b = map (λ kind. record { kind = kind; a = a; b = b }) kinds

-- the six faces of the square (a, b)
abbrev pub faces_of_square : ℕ → ℕ → List Face
faces_of_square a b = faces_in (Vertex ∷ Horizontal ∷ Vertical ∷ Diagonal ∷ Lower ∷ Upper ∷ []) a b

-- all faces in walk order: a from 0, inside it b from 0, and inside that the six faces of the
-- square (a, b)
abbrev pub faces_of : ℕ → List Face
faces_of q = flat_map (λ a. flat_map (faces_of_square a) (range_with_len 0 q)) (range_with_len 0 q)
