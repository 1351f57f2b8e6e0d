-- Faces that are added to a list (own).
use Rattle.std.specs.Prelude.{ℕ, ◌≡◌, List, ◌++◌, flat_map}
use Rattle.std.specs.List.{range_with_len}
use Rattle.gj_shape.specs.FunctionData.{FunctionData}
use Rattle.gj_shape.specs.WalkOrder.{faces_of_square}
use Rattle.gj_shape.specs.declared.faces.Face.{Face}
use Rattle.gj_faces.specs.Listed.{IsMaximalIn}
use Rattle.gj_faces.specs.Picked.{ArePicked}

-- the new list has behind the old one those of the faces that are maximal
pub record AddsMaximal (f : FunctionData) (faces old new : List Face) : Type 0 where
  pub added : List Face
  pub picked : ArePicked (IsMaximalIn f) faces added
  pub items : new ≡ old ++ added

-- the faces of row a, in walk order
abbrev pub faces_of_row : ℕ → ℕ → List Face
faces_of_row q a = flat_map (faces_of_square a) (range_with_len 0 q)
