use Rattle.std.proofs.Common.{◌+◌, ◌*◌, ◌-◌, ◌≤◌, flat_map, vec_capacity, vec_len}
use Rattle.std.specs.List.{range_with_len}
use Rattle.gj_shape.specs.WalkOrder.{faces_of_square}
use Rattle.gj_faces.specs.Added.{AddsMaximal}
use Rattle.gj_faces.proofs.maximal_faces.push_maximal_row.Given as goal

abbrev pub invariant-loop-b : goal.invariant-loop-b
invariant-loop-b l =
    AddsMaximal l.shape (flat_map (faces_of_square l.a) (range_with_len 0 l.from))
    l.initial.faces.items l.faces.items
    × (l.from ≤ l.shape.order)
    × (vec_len l.faces + 2 * (l.shape.order - l.from) ≤ vec_capacity l.faces)

abbrev pub decreases-loop-b : goal.decreases-loop-b
decreases-loop-b l = 1024 - l.from
