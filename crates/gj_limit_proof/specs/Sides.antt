-- The sides of the three points of a limit, as a word (own).
use Rattle.std.specs.Prelude.{ℕ, List, [], ◌∷◌}
use Rattle.gj_shape.specs.declared.faces.FaceKind.{FaceKind}
use Rattle.gj_limit_faces.specs.Terms.{terms_at}
use Rattle.gj_limit_faces.specs.declared.terms.Side.{Side}
use Rattle.gj_limit_faces.specs.declared.terms.Side.TheVariants.{Left, Value, Right}

-- `-` for the limit from the left, `0` for the value, `+` for the limit from the right
abbrev pub side_code : Side → ℕ
side_code Left = 45
side_code Value = 48
side_code Right = 43

-- those of A, of B and of their sum, seen from inside the faces of this kind of which (A, B) is this
-- corner
abbrev pub sides_word : FaceKind → ℕ → List ℕ
sides_word kind corner =
    side_code (terms_at kind corner).x ∷ side_code (terms_at kind corner).y
    ∷ side_code (terms_at kind corner).sum ∷ []
