use Rattle.std.proofs.Common.{◌*◌, ◌≤◌, flat_map}
use Rattle.std.specs.List.{range_with_len}
use Rattle.gj_faces.specs.Added.{faces_of_row}
use Rattle.gj_faces.proofs.CountedTriangles.{AreCounted}
use Rattle.gj_faces.proofs.triangles.count_additive_triangles.Given as goal

abbrev pub invariant-loop-a : goal.invariant-loop-a
invariant-loop-a l =
    AreCounted l.shape (flat_map (faces_of_row l.shape.order) (range_with_len 0 l.a)) l.count
    × (l.count ≤ 2048 * l.a)
