-- Which faces of a row of squares are maximal (own).
use Rattle.std.specs.Prelude.{ℕ, ◌≡◌, ◌↔◌, ◌<◌, ◌≤◌, false, IsTrue}
use Rattle.gj_loops.specs.IndexSets.{has}
use Rattle.gj_loops.specs.declared.index_set.IndexSet.{IndexSet}
use Rattle.gj_shape.specs.FunctionData.{FunctionData}
use Rattle.gj_shape.specs.declared.faces.FaceKind.{FaceKind}
use Rattle.gj_shape.specs.declared.faces.FaceKind.TheVariants.{Vertex, Horizontal, Vertical, Diagonal, Lower, Upper}
use Rattle.gj_faces.specs.declared.alone.Alone.{Alone}
use Rattle.gj_faces.specs.Listed.{IsMaximalIn}
use Rattle.gj_faces.specs.Triangles.{is_triangle}

-- the set of a kind
abbrev pub set_of : Alone → FaceKind → IndexSet
set_of alone Vertex = alone.vertex
set_of alone Horizontal = alone.horizontal
set_of alone Vertical = alone.vertical
set_of alone Diagonal = alone.diagonal
set_of alone Lower = alone.lower
set_of alone Upper = alone.upper

-- the sets say of each b below the order which faces of the square (a, b) are maximal, whether any
-- is, and whether one is that is no triangle; if one is, no other is
pub record AreAlone (f : FunctionData) (a : ℕ) (alone : Alone) : Type 0 where
  pub each : (kind : FaceKind) (b : ℕ) → b < f.order →
      IsTrue (has (set_of alone kind) b) ↔ IsMaximalIn f (record { kind = kind; a = a; b = b })
  pub any : (kind : FaceKind) (b : ℕ) → b < f.order → IsTrue (has (set_of alone kind) b) →
      IsTrue (has alone.any b)
  pub edges : (kind : FaceKind) (b : ℕ) → b < f.order → is_triangle kind ≡ false →
      IsTrue (has (set_of alone kind) b) →
      IsTrue (has alone.edges b)
  pub rest : (b : ℕ) → IsTrue (has alone.edges b) → has alone.vertex b ≡ false →
      has alone.horizontal b ≡ false →
      has alone.vertical b ≡ false → IsTrue (has alone.diagonal b)
  pub apart : (kind other : FaceKind) (b : ℕ) → is_triangle kind ≡ false →
      IsMaximalIn f (record { kind = kind; a = a; b = b }) →
      IsMaximalIn f (record { kind = other; a = a; b = b }) → kind ≡ other
  pub within : (b : ℕ) → f.order ≤ b → has alone.any b ≡ false
