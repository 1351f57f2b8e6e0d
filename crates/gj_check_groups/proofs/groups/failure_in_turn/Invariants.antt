use Rattle.std.proofs.Common.{length}
use Rattle.gj_shape.specs.SlopeRows.{component_in}
use Rattle.gj_check_groups.proofs.GroupsInTurn.{AreChecked}
use Rattle.gj_check_groups.proofs.groups.failure_in_turn.Given as goal

abbrev pub invariant-loop-group : goal.invariant-loop-group
invariant-loop-group l =
    AreChecked l.numbers l.shape (component_in l.component)
    (length l.initial.row) l.rows l.group-index l.table l.above
