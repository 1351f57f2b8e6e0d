use Rattle.std.proofs.Common.{◌≡◌, ◌<◌, ◌++◌}
use Rattle.gj_shape.specs.FunctionData.{FunctionData}
use Rattle.gj_limit_system.specs.TightSets.{AreTightSets}
use Rattle.gj_limit_system.proofs.RowPushes.{rows_so_far}
use Rattle.gj_limit_system.proofs.tight_rows.push_rows_at.Given as goal

abbrev pub invariant-loop-position : goal.invariant-loop-position
invariant-loop-position l =
    (f : FunctionData) → l.b < f.order → AreTightSets f l.a 13 l.sets →
    l.rows.items ≡ l.initial.rows.items ++ rows_so_far f l.a l.b l.position
