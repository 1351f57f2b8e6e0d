-- What a walk has left to give (own).
use Rattle.std.specs.Prelude.{List}
use Rattle.gj_shape.specs.declared.faces.Face.{Face}
use Rattle.gj_complex.specs.declared.face_walk.FaceWalk.{FaceWalk}
use Rattle.gj_complex.specs.Walk.{faces_from}

-- the faces that are left, in their order
abbrev pub faces_left : FaceWalk → List Face
faces_left walk = faces_from walk.order walk.next
