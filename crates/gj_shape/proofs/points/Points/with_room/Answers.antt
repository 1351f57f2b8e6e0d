use Rattle.gj_shape.proofs.PointLists.{kept_none}
use Rattle.gj_shape.proofs.points.Points.with_room.Goals as goal

pub invariant_of-result : goal.invariant_of-result
invariant_of-result c =
    rw (
      c.in_ok-with_capacity.ensures.items,
      c.in_ok-with_capacity-2.ensures.items,
      c.in_ok-with_capacity-3.ensures.items,
    ) kept_none
