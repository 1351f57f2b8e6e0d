use Rattle.std.proofs.Common.{◌≤◌}
use Rattle.std.specs.Vec.{vec_capacity}
use Rattle.gj_faces.specs.Rows.{AreRows}
use Rattle.gj_faces.proofs.lanes.rows_over.Given as goal

abbrev pub invariant-loop-a : goal.invariant-loop-a
invariant-loop-a g l = AreRows l.shape l.a l.rows.items × (l.order ≤ vec_capacity l.rows)
