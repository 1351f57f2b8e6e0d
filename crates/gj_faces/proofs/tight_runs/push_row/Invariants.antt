use Rattle.std.proofs.Common.{◌≡◌, ◌⊎◌, ◌-◌, ◌≤◌, false}
use Rattle.gj_loops.specs.IndexSets.{has}
use Rattle.gj_shape.specs.Additive.{IsTight}
use Rattle.gj_faces.specs.RunsBefore.{AreRunsBefore}
use Rattle.gj_faces.proofs.tight_runs.push_row.Given as goal

abbrev pub invariant-loop-from : goal.invariant-loop-from
invariant-loop-from l =
    AreRunsBefore l.shape.order (IsTight l.shape) l.a l.place l.runs.items
    × (l.place ≤ l.shape.order)
    × ((l.place ≡ 0) ⊎ (has l.row l.place ≡ false))

abbrev pub decreases-loop-from : goal.decreases-loop-from
decreases-loop-from l = 1024 - l.place
