-- The faces into which the lines x = i/q, y = j/q and x + y = k/q cut the plane, and the limits of
-- the subadditivity slack at their corners (Light on the Infinite Group Relaxation I).
use Rattle.std.specs.Prelude.{ℕ, ℤ, ◌+◌, ◌+ℤ◌, ◌-ℤ◌, List, [], ◌∷◌}
use Rattle.gj_shape.specs.FunctionData.{FunctionData, at}
use Rattle.gj_shape.specs.declared.faces.FaceKind.{FaceKind}
use Rattle.gj_shape.specs.declared.faces.FaceKind.TheVariants.{Vertex, Horizontal, Vertical, Diagonal, Lower, Upper}

-- the corners of a face of the square (a, b), in units of 1/q
abbrev pub corners_of : FaceKind → ℕ → ℕ → List (ℕ × ℕ)
corners_of Vertex a b = (a, b) ∷ []
corners_of Horizontal a b = (a, b) ∷ (a + 1, b) ∷ []
corners_of Vertical a b = (a, b) ∷ (a, b + 1) ∷ []
corners_of Diagonal a b = (a + 1, b) ∷ (a, b + 1) ∷ []
corners_of Lower a b = (a, b) ∷ (a + 1, b) ∷ (a, b + 1) ∷ []
corners_of Upper a b = (a + 1, b) ∷ (a, b + 1) ∷ (a + 1, b + 1) ∷ []

-- the slack pi(x) + pi(y) - pi(x + y) from three values or limits
abbrev pub slack_from : ℤ → ℤ → ℤ → ℤ
slack_from x y sum = x +ℤ y -ℤ sum

-- the limits of the slack from inside the face at its corners, in their order
abbrev pub limits_of : FunctionData → FaceKind → ℕ → ℕ → List ℤ
limits_of f Vertex a b = slack_from (at f.value a) (at f.value b) (at f.value (a + b)) ∷ []
limits_of f Horizontal a b =
    slack_from (at f.right a) (at f.value b) (at f.right (a + b))
    ∷ slack_from (at f.left (a + 1)) (at f.value b) (at f.left (a + b + 1)) ∷ []
limits_of f Vertical a b =
    slack_from (at f.value a) (at f.right b) (at f.right (a + b))
    ∷ slack_from (at f.value a) (at f.left (b + 1)) (at f.left (a + b + 1)) ∷ []
limits_of f Diagonal a b =
    slack_from (at f.left (a + 1)) (at f.right b) (at f.value (a + b + 1))
    ∷ slack_from (at f.right a) (at f.left (b + 1)) (at f.value (a + b + 1)) ∷ []
limits_of f Lower a b =
    slack_from (at f.right a) (at f.right b) (at f.right (a + b))
    ∷ slack_from (at f.left (a + 1)) (at f.right b) (at f.left (a + b + 1))
    ∷ slack_from (at f.right a) (at f.left (b + 1)) (at f.left (a + b + 1)) ∷ []
limits_of f Upper a b =
    slack_from (at f.left (a + 1)) (at f.right b) (at f.right (a + b + 1))
    ∷ slack_from (at f.right a) (at f.left (b + 1)) (at f.right (a + b + 1))
    ∷ slack_from (at f.left (a + 1)) (at f.left (b + 1)) (at f.left (a + b + 1 + 1)) ∷ []
