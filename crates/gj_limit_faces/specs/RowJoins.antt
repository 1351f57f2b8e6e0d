-- Edges that link two intervals, and triangles with slack 0, of a function that may jump (Basu,
-- Hildebrand and Koeppe, Equivariant Perturbation I; the limits of edges are own).
use Rattle.std.specs.Prelude.{ℕ, ◌≡◌, ◌⊎◌, ◌↔◌, ◌+◌, ◌%◌, ◌<◌, IsTrue}
use Rattle.gj_loops.specs.IndexSets.{has, no_set}
use Rattle.gj_shape.specs.FunctionData.{FunctionData}
use Rattle.gj_shape.specs.declared.faces.FaceKind.{FaceKind}
use Rattle.gj_shape.specs.declared.faces.FaceKind.TheVariants.{Horizontal, Diagonal, Lower, Upper}
use Rattle.gj_jumps.specs.LimitCover.{IsTightAt}
use Rattle.gj_limit_faces.specs.declared.row_joins.RowJoins.{RowJoins}

-- both of these corners of a face are tight: T says of a face's kind, its square and a corner, from
-- 0 on, whether the limit of the slack from inside the face is 0 there
abbrev pub IsTightAlong : (FaceKind → ℕ → ℕ → ℕ → Type 0) → FaceKind → ℕ → ℕ → ℕ → ℕ → Type 0
IsTightAlong T kind a b c d = T kind a b c × T kind a b d

-- all corners of the triangle are tight
abbrev pub IsTightTriangle : (FaceKind → ℕ → ℕ → ℕ → Type 0) → FaceKind → ℕ → ℕ → Type 0
IsTightTriangle T kind a b = T kind a b 0 × T kind a b 1 × T kind a b 2

-- the ends of the horizontal edge from (a, b) to (a + 1, b) are, in the edge, in the triangle above
-- it, or in the one below it
abbrev pub IsHorizontalJoin : ℕ → (FaceKind → ℕ → ℕ → ℕ → Type 0) → ℕ → ℕ → Type 0
IsHorizontalJoin q T a b =
    IsTightAlong T Horizontal a b 0 1 ⊎ IsTightAlong T Lower a b 0 1
    ⊎ ((c : ℕ) × (c < q) × ((c + 1) % q ≡ b) × IsTightAlong T Upper a c 1 2)

-- the same of the diagonal edge
abbrev pub IsDiagonalJoin : (FaceKind → ℕ → ℕ → ℕ → Type 0) → ℕ → ℕ → Type 0
IsDiagonalJoin T a b =
    IsTightAlong T Diagonal a b 0 1 ⊎ IsTightAlong T Lower a b 1 2 ⊎ IsTightAlong T Upper a b 0 1

-- the sets say of the indices b below the order, and of no others, which edges and triangles of the
-- squares (a, b) are such
pub record AreRowJoins (f : FunctionData) (a : ℕ) (row : RowJoins) : Type 0 where
  pub horizontal : (b : ℕ) → IsTrue (has row.horizontal b) ↔
      ((b < f.order) × IsHorizontalJoin f.order (IsTightAt f) a b)
  pub diagonal : (b : ℕ) → IsTrue (has row.diagonal b) ↔
      ((b < f.order) × IsDiagonalJoin (IsTightAt f) a b)
  pub lower : (b : ℕ) → IsTrue (has row.lower b) ↔
      ((b < f.order) × IsTightTriangle (IsTightAt f) Lower a b)
  pub upper : (b : ℕ) → IsTrue (has row.upper b) ↔
      ((b < f.order) × IsTightTriangle (IsTightAt f) Upper a b)

-- a row of no joins, if none is meant
abbrev pub no_row : RowJoins
no_row = record { horizontal = no_set; diagonal = no_set; lower = no_set; upper = no_set }
