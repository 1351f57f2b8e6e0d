-- The lines of faces and of covered intervals in their one spelling (own).
use Rattle.std.specs.Prelude.{ℕ, List, [], ◌∷◌, ◌++◌, codes, decimal}
use Rattle.gj_shape.specs.declared.faces.Face.{Face}
use Rattle.gj_shape.specs.declared.faces.FaceKind.{FaceKind}
use Rattle.gj_shape.specs.declared.faces.FaceKind.TheVariants.{Vertex, Horizontal, Vertical, Diagonal, Lower, Upper}
use Rattle.gj_shape.specs.declared.extremality.CoverLine.{CoverLine}
use Rattle.gj_forms.specs.LineForms.{Field, bytes_of}
use Rattle.gj_forms.specs.LineForms.Field.{word, count}

-- the word of a kind of face
abbrev pub face_word : FaceKind → List ℕ
face_word Vertex = codes "vertex"
face_word Horizontal = codes "horizontal"
face_word Vertical = codes "vertical"
face_word Diagonal = codes "diagonal"
face_word Lower = codes "lower"
face_word Upper = codes "upper"

-- a face: the word of its kind and its square
abbrev pub face_text : Face → List ℕ
face_text face = face_word face.kind ++ codes " " ++ decimal face.a ++ codes " " ++ decimal face.b

-- `cover I J KIND A B`: an interval, the interval to which it is joined, and the face that joins
-- the two
abbrev pub cover_fields : CoverLine → List Field
cover_fields l =
    word (codes "cover") ∷ count l.interval ∷ count l.from ∷ word (face_word l.face.kind)
    ∷ count l.face.a ∷ count l.face.b ∷ []

abbrev pub cover_line : CoverLine → List ℕ
cover_line l = bytes_of (cover_fields l)
