use Rattle.std.proofs.Common.{◌+◌, ◌<◌, ◌^◌, length}
use Rattle.gj_limit_extreme.specs.RowsToCome.{tight_rows_from, HaveColumns, AreToCome}
use Rattle.gj_limit_extreme.specs.SystemRows.{columns_in}
use Rattle.gj_limit_extreme.proofs.inserted_rows.rows_of.Given as goal

abbrev pub invariant-loop-a : goal.invariant-loop-a
invariant-loop-a l = record {
  columns : HaveColumns (columns_in l.system) l.rows;
  count : l.rows.basis.inserted + length (tight_rows_from l.shape l.a) < 2 ^ 32;
  to_come : AreToCome l.shape l.system.component (columns_in l.system) l.rows
      (tight_rows_from l.shape l.a);
}
