-- The additive triangles of a continuous function as a list (Light on the Infinite Group Relaxation
-- I).
use Rattle.std.specs.Prelude.{Bool, true, false, IsTrue, List}
use Rattle.gj_shape.specs.Additive.{IsTight, IsAdditive}
use Rattle.gj_shape.specs.FunctionData.{FunctionData}
use Rattle.gj_shape.specs.WalkOrder.{faces_of}
use Rattle.gj_shape.specs.declared.faces.Face.{Face}
use Rattle.gj_shape.specs.declared.faces.FaceKind.{FaceKind}
use Rattle.gj_shape.specs.declared.faces.FaceKind.TheVariants.{Lower, Upper}
use Rattle.gj_faces.specs.Picked.{ArePicked}

-- whether a face of this kind is a triangle
abbrev pub is_triangle : FaceKind → Bool
is_triangle Lower = true
is_triangle Upper = true
is_triangle kind = false

-- the face is an additive triangle of the function
abbrev pub IsAdditiveTriangle : FunctionData → Face → Type 0
IsAdditiveTriangle f face = IsTrue (is_triangle face.kind)
    × IsAdditive (IsTight f) face.kind face.a face.b

-- the additive triangles of the function, in walk order
abbrev pub AreAdditiveTriangles : FunctionData → List Face → Type 0
AreAdditiveTriangles f faces = ArePicked (IsAdditiveTriangle f) (faces_of f.order) faces
