use Rattle.std.proofs.Common.{flat_map}
use Rattle.std.specs.List.{range_with_len}
use Rattle.gj_shape.specs.WalkOrder.{faces_of_square}
use Rattle.gj_limit_faces_text.specs.AppendedFaces.{AppendsMaximal}
use Rattle.gj_limit_faces_text.proofs.text.push_row.Given as goal

abbrev pub invariant-loop-b : goal.invariant-loop-b
invariant-loop-b l =
    AppendsMaximal l.shape (flat_map (faces_of_square l.a) (range_with_len 0 l.b)) l.fn.out.items
    l.out.items
