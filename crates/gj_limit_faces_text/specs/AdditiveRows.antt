-- The faces of one row of squares on which the slack is 0, and those that are parts of others (own).
use Rattle.std.specs.Prelude.{ℕ, ◌≡◌, ◌↔◌, ◌+◌, ◌-◌, ◌%◌, ◌<◌, Bool, false, ◌||◌, IsTrue}
use Rattle.gj_loops.specs.IndexSets.{has}
use Rattle.gj_loops.specs.declared.index_set.IndexSet.{IndexSet}
use Rattle.gj_shape.specs.FunctionData.{FunctionData, IsWithinBounds}
use Rattle.gj_shape.specs.declared.faces.FaceKind.{FaceKind}
use Rattle.gj_shape.specs.declared.faces.FaceKind.TheVariants.{Vertex, Horizontal, Vertical, Diagonal, Lower, Upper}
use Rattle.gj_limit_faces_text.specs.LimitFacesText.{IsAdditiveIn}
use Rattle.gj_limit_faces_text.specs.declared.additive_row.AdditiveRow.{AdditiveRow}

-- the set for the faces of a kind
abbrev pub set_of : AdditiveRow → FaceKind → IndexSet
set_of row Vertex = row.vertex
set_of row Horizontal = row.horizontal
set_of row Vertical = row.vertical
set_of row Diagonal = row.diagonal
set_of row Lower = row.lower
set_of row Upper = row.upper

-- the row is that of the squares (a, b) with this a
abbrev pub IsAdditiveRow : FunctionData → ℕ → AdditiveRow → Type 0
IsAdditiveRow f a row = (kind : FaceKind) (b : ℕ) → IsTrue (has (set_of row kind) b)
    ↔ ((b < f.order) × IsAdditiveIn f kind a b)

-- the index before this one, modulo the order
abbrev pub one_less : ℕ → ℕ → ℕ
one_less q i = (i + (q - 1)) % q

-- at the square (a, b): the row of a, the one before it, and the index before b
pub record AreRowsAt (f : FunctionData) (a b back : ℕ) (here before : AdditiveRow) : Type 0 where
  pub bounds : IsWithinBounds f
  pub first : a < f.order
  pub second : b < f.order
  pub is_here : IsAdditiveRow f a here
  pub is_before : IsAdditiveRow f (one_less f.order a) before
  pub is_back : back ≡ one_less f.order b

-- the row of a has such a face at b
abbrev pub is_in : AdditiveRow → FaceKind → ℕ → Bool
is_in row kind b = has (set_of row kind) b

-- by the row of a, that before it, b and the index before it: the vertex is an end of such an edge,
-- or a corner of such a triangle
abbrev pub is_edge_end : AdditiveRow → AdditiveRow → ℕ → ℕ → Bool
is_edge_end here before b back =
    is_in here Horizontal b
    || (is_in before Horizontal b || (is_in here Vertical b || (is_in here Vertical back
    || (is_in before Diagonal b || is_in here Diagonal back))))

abbrev pub is_triangle_corner : AdditiveRow → AdditiveRow → ℕ → ℕ → Bool
is_triangle_corner here before b back =
    is_in here Lower b || (is_in before Lower b || (is_in here Lower back || (is_in before Upper b
    || (is_in here Upper back || is_in before Upper back))))

-- the face is in the border of such a face of higher dimension
abbrev pub is_part : AdditiveRow → AdditiveRow → FaceKind → ℕ → ℕ → Bool
is_part here before Vertex b back =
    is_edge_end here before b back || is_triangle_corner here before b back
is_part here before Horizontal b back = is_in here Lower b || is_in here Upper back
is_part here before Vertical b back = is_in here Lower b || is_in before Upper b
is_part here before Diagonal b back = is_in here Lower b || is_in here Upper b
is_part here before Lower b back = false
is_part here before Upper b back = false
