-- The words of the first line of a group (own).
use Rattle.std.specs.Prelude.{ℕ, List, ◌∷◌, codes}
use Rattle.gj_forms.specs.LineForms.{words_of}
use Rattle.gj_shape.specs.declared.faces.FaceKind.{FaceKind}
use Rattle.gj_limit_proof.specs.LimitText.{sides_fields}

-- with these words in the places of the two points
abbrev pub texts_of_row : FaceKind → ℕ → List ℕ → List ℕ → List (List ℕ)
texts_of_row kind corner first second =
    codes "row" ∷ first ∷ second ∷ words_of (sides_fields kind corner)
