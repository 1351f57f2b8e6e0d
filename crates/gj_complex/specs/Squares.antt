-- The limits of the slack in one square (Light on the Infinite Group Relaxation I).
use Rattle.std.specs.Prelude.{ℕ, ℤ, ◌≡◌, List, [], ◌∷◌}
use Rattle.gj_shape.specs.FunctionData.{FunctionData}
use Rattle.gj_shape.specs.Faces.{slack_from, limits_of}
use Rattle.gj_shape.specs.declared.faces.FaceKind.{FaceKind}
use Rattle.gj_shape.specs.declared.faces.FaceKind.TheVariants.{Vertex, Horizontal, Vertical, Diagonal, Lower, Upper}
use Rattle.gj_complex.specs.declared.square.Square.{Square}

-- the limits at the corners of each face, from the numbers of the square
abbrev pub limits_in : Square → FaceKind → List ℤ
limits_in s Vertex = slack_from s.value_first s.value_second s.value_sum ∷ []
limits_in s Horizontal =
    slack_from s.right_first s.value_second s.right_sum
    ∷ slack_from s.left_first s.value_second s.left_next ∷ []
limits_in s Vertical =
    slack_from s.value_first s.right_second s.right_sum
    ∷ slack_from s.value_first s.left_second s.left_next ∷ []
limits_in s Diagonal =
    slack_from s.left_first s.right_second s.value_next
    ∷ slack_from s.right_first s.left_second s.value_next ∷ []
limits_in s Lower =
    slack_from s.right_first s.right_second s.right_sum
    ∷ slack_from s.left_first s.right_second s.left_next
    ∷ slack_from s.right_first s.left_second s.left_next ∷ []
limits_in s Upper =
    slack_from s.left_first s.right_second s.right_next
    ∷ slack_from s.right_first s.left_second s.right_next
    ∷ slack_from s.left_first s.left_second s.left_last ∷ []

-- the limits in the square are those of the function in the square (a, b)
abbrev pub HasLimits : Square → FunctionData → ℕ → ℕ → Type 0
HasLimits s f a b = (kind : FaceKind) → limits_in s kind ≡ limits_of f kind a b
