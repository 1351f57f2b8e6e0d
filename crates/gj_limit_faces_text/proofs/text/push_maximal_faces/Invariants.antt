use Rattle.std.proofs.Common.{flat_map}
use Rattle.std.specs.List.{range_with_len}
use Rattle.gj_faces.specs.Added.{faces_of_row}
use Rattle.gj_limit_faces_text.specs.AppendedFaces.{AppendsMaximal}
use Rattle.gj_limit_faces_text.proofs.text.push_maximal_faces.Given as goal

abbrev pub invariant-loop-a : goal.invariant-loop-a
invariant-loop-a l =
    AppendsMaximal l.shape (flat_map (faces_of_row l.shape.order) (range_with_len 0 l.a))
    l.fn.out.items l.out.items
