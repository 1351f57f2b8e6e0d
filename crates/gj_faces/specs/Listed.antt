-- The maximal additive faces of a continuous function as a list (Light on the Infinite Group
-- Relaxation I).
use Rattle.std.specs.Prelude.{ℕ, ◌<◌, ◌↔◌, List, Any}
use Rattle.gj_shape.specs.FunctionData.{FunctionData}
use Rattle.gj_shape.specs.Additive.{IsTight, IsTightOnGrid, IsAdditive, IsInClosure, IsMaximalFace}
use Rattle.gj_shape.specs.WalkOrder.{faces_of}
use Rattle.gj_shape.specs.declared.faces.Face.{Face}
use Rattle.gj_shape.specs.declared.faces.FaceKind.{FaceKind}
use Rattle.gj_faces.specs.Picked.{ArePicked}

-- the face is a maximal additive face of the function
abbrev pub IsMaximalIn : FunctionData → Face → Type 0
IsMaximalIn f face = IsMaximalFace f.order (IsTight f) face.kind face.a face.b

-- the maximal additive faces of the function, in walk order
abbrev pub AreMaximalFaces : FunctionData → List Face → Type 0
AreMaximalFaces f faces = ArePicked (IsMaximalIn f) (faces_of f.order) faces

-- the pair of multiples of 1/(order m) lies in the closure of a listed face
abbrev pub IsInListed : FunctionData → ℕ → List Face → ℕ → ℕ → Type 0
IsInListed f m faces i j = Any (λ face. IsInClosure f m face.kind face.a face.b i j) faces

-- the closure of each additive face of the function lies in the closures of the listed ones
abbrev pub HoldAdditive : FunctionData → List Face → Type 0
HoldAdditive f faces =
    (m : ℕ) (kind : FaceKind) (a b i j : ℕ) → IsAdditive (IsTight f) kind a b →
    IsInClosure f m kind a b i j →
    IsInListed f m faces i j

-- on each grid the pairs at which the table is tight are those in the closures of the listed faces
abbrev pub TellTightPairs : FunctionData → List Face → Type 0
TellTightPairs f faces = (m i j : ℕ) → 0 < m → IsTightOnGrid f m i j ↔ IsInListed f m faces i j
