-- Tight pairs and additive faces of a continuous function (Light on the Infinite Group Relaxation
-- I).
use Rattle.std.specs.Prelude.{ℕ, ◌≡◌, ◌+◌, ◌*◌, ◌%◌, ◌≤◌, ◌+ℤ◌, List, [], ◌∷◌, ◌++◌, map, All}
use Rattle.gj_shape.specs.FunctionData.{FunctionData, at}
use Rattle.gj_shape.specs.Table.{table}
use Rattle.gj_shape.specs.Faces.{corners_of}
use Rattle.gj_shape.specs.declared.faces.FaceKind.{FaceKind}
use Rattle.gj_shape.specs.declared.faces.FaceKind.TheVariants.{Vertex, Horizontal, Vertical, Diagonal, Lower, Upper}

-- the values at a/order and b/order add up to the value at their sum
abbrev pub IsTight : FunctionData → ℕ → ℕ → Type 0
IsTight f a b = at f.value a +ℤ at f.value b ≡ at f.value (a + b)

-- the same for the table on the grid of order m times the function's
abbrev pub IsTightOnGrid : FunctionData → ℕ → ℕ → ℕ → Type 0
IsTightOnGrid f m i j = table f m i +ℤ table f m j ≡ table f m (i + j)

-- each corner of the face is one of these pairs; the face of the function f is additive if each is
-- a tight pair of f
abbrev pub IsAdditive : (ℕ → ℕ → Type 0) → FaceKind → ℕ → ℕ → Type 0
IsAdditive Tight kind a b = All (λ corner. Tight corner.0 corner.1) (corners_of kind a b)

-- ---- closures

-- the edges of a triangle
abbrev pub edges_of : FaceKind → ℕ → ℕ → List (FaceKind × ℕ × ℕ)
edges_of Lower a b = (Horizontal, a, b) ∷ (Vertical, a, b) ∷ (Diagonal, a, b) ∷ []
edges_of Upper a b = (Horizontal, a, b + 1) ∷ (Vertical, a + 1, b) ∷ (Diagonal, a, b) ∷ []
edges_of kind a b = []

-- the faces of lower dimension in the closure of a face: its corners as vertices, and its edges
abbrev pub border_of : FaceKind → ℕ → ℕ → List (FaceKind × ℕ × ℕ)
border_of Vertex a b = []
border_of kind a b = map (λ corner. (Vertex, corner.0, corner.1)) (corners_of kind a b)
    ++ edges_of kind a b

-- the pair of multiples of 1/(order m) lies in the closure of the face, in the plane
abbrev pub IsInFace : ℕ → FaceKind → ℕ → ℕ → ℕ → ℕ → Type 0
IsInFace m Vertex a b i j = (i ≡ a * m) × (j ≡ b * m)
IsInFace m Horizontal a b i j = (a * m ≤ i) × (i ≤ (a + 1) * m) × (j ≡ b * m)
IsInFace m Vertical a b i j = (i ≡ a * m) × (b * m ≤ j) × (j ≤ (b + 1) * m)
IsInFace m Diagonal a b i j = (a * m ≤ i) × (b * m ≤ j) × (i + j ≡ (a + b + 1) * m)
IsInFace m Lower a b i j = (a * m ≤ i) × (b * m ≤ j) × (i + j ≤ (a + b + 1) * m)
IsInFace m Upper a b i j = (i ≤ (a + 1) * m) × (j ≤ (b + 1) * m) × ((a + b + 1) * m ≤ i + j)

-- the same with indices modulo the order of the grid
abbrev pub IsInClosure : FunctionData → ℕ → FaceKind → ℕ → ℕ → ℕ → ℕ → Type 0
IsInClosure f m kind a b i j =
    (x : ℕ) × (y : ℕ) × (x % (f.order * m) ≡ i % (f.order * m))
    × (y % (f.order * m) ≡ j % (f.order * m))
    × IsInFace m kind a b x y

-- ---- maximal additive faces

-- the two are one face, indices modulo the order
pub record IsSameFace (q : ℕ) (first second : FaceKind × ℕ × ℕ) : Type 0 where
  pub kind : first.0 ≡ second.0
  pub first_index : first.1 % q ≡ second.1 % q
  pub second_index : first.2 % q ≡ second.2 % q

-- the face of the complex of order q is additive, and lies in the closure of no additive face of
-- higher dimension
pub record IsMaximalFace (q : ℕ) (Tight : ℕ → ℕ → Type 0) (kind : FaceKind) (a b : ℕ) : Type 0 where
  pub additive : IsAdditive Tight kind a b
  pub maximal : (other : FaceKind) (c d : ℕ) → IsAdditive Tight other c d →
      All (λ face. IsSameFace q face (kind, a, b) → ⊥) (border_of other c d)
