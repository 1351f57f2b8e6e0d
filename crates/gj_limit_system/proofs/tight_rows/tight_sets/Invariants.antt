use Rattle.std.proofs.Common.{◌≤◌}
use Rattle.std.specs.Vec.{vec_capacity}
use Rattle.gj_limit_system.specs.TightSets.{AreTightSets}
use Rattle.gj_limit_system.proofs.tight_rows.tight_sets.Given as goal

abbrev pub invariant-loop-position : goal.invariant-loop-position
invariant-loop-position l =
    AreTightSets l.shape l.a l.position l.sets.items × (13 ≤ vec_capacity l.sets)
