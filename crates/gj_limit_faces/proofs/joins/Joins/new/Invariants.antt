use Rattle.std.proofs.Common.{◌≤◌, IfSome}
use Rattle.std.specs.Vec.{vec_capacity}
use Rattle.gj_limit_faces.specs.Joins.{AreJoinRows}
use Rattle.gj_limit_faces.specs.ValueRows.{IsValueRow}
use Rattle.gj_limit_faces.proofs.joins.Joins.new.Given as goal

abbrev pub invariant-loop-a : goal.invariant-loop-a
invariant-loop-a l =
    AreJoinRows l.shape l.a l.rows.items × (l.order ≤ vec_capacity l.rows)
    × IfSome l.start (IsValueRow l.shape l.a)
