use Rattle.std.proofs.Common.{flat_map}
use Rattle.std.specs.List.{range_with_len}
use Rattle.gj_faces.specs.Added.{faces_of_row}
use Rattle.gj_faces.specs.Listed.{IsMaximalIn}
use Rattle.gj_faces.specs.Picked.{ArePicked}
use Rattle.gj_faces.proofs.maximal_faces.maximal.Given as goal

abbrev pub invariant-loop-a : goal.invariant-loop-a
invariant-loop-a l =
    ArePicked (IsMaximalIn l.shape) (flat_map (faces_of_row l.shape.order) (range_with_len 0 l.a))
    l.faces.items
