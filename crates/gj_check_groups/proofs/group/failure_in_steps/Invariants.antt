use Rattle.std.proofs.Common.{List}
use Rattle.gj_shape.specs.Elimination.{KeptRow}
use Rattle.gj_check_groups.specs.RowNumbers.{AreRowNumbers}
use Rattle.gj_check_groups.specs.KeptTable.{AreRowsAt}
use Rattle.gj_check_groups.proofs.StepsInTurn.{AreStepped}
use Rattle.gj_check_groups.proofs.group.failure_in_steps.Given as goal

abbrev pub invariant-loop-place : goal.invariant-loop-place
invariant-loop-place l = record {
  fits : AreRowNumbers l.numbers l.row;
  stepped : (kept : List KeptRow) → AreRowsAt kept l.table →
      AreStepped l.numbers kept l.initial.row l.columns l.place l.row;
}
