use Rattle.std.proofs.Common.{◌≡◌, take}
use Rattle.gj_shape.specs.Points.{lefts, values, rights}
use Rattle.gj_shape.proofs.pieces.with_points.Given as goal

abbrev pub invariant-loop-point : goal.invariant-loop-point
invariant-loop-point l = record {
  left : l.left.items ≡ lefts (take l.point-index l.points);
  value : l.value.items ≡ values (take l.point-index l.points);
  right : l.right.items ≡ rights (take l.point-index l.points);
}
