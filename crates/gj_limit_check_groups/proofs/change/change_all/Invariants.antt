use Rattle.std.proofs.Common.{◌≡◌, ◌++◌, map, take, drop}
use Rattle.gj_limit_check_groups.specs.Changes.{changed_entry}
use Rattle.gj_limit_check_groups.proofs.change.change_all.Given as goal

abbrev pub invariant-loop-i : goal.invariant-loop-i
invariant-loop-i l =
    l.row ≡ map (changed_entry l.change) (take l.i l.initial.row) ++ drop l.i l.initial.row
