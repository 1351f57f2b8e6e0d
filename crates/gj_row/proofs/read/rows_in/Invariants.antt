use Rattle.std.proofs.Common.{◌-◌, ◌≤◌, length}
use Rattle.gj_row.specs.TableauLimits.{most_entries}
use Rattle.gj_row.specs.Reading.{HoldsBehindHeader, bytes_of}
use Rattle.gj_row.proofs.RowsRead.{RowsRead}
use Rattle.gj_row.proofs.read.rows_in.Given as goal

abbrev pub invariant-loop-rows : goal.invariant-loop-rows
invariant-loop-rows l = record {
  few : l.used ≤ most_entries;
  read : HoldsBehindHeader l.columns (bytes_of l.fn.names.keys) l.fn.records
      (λ text. RowsRead text l.records (bytes_of l.names.keys) l.columns l.rows.items l.used);
}

abbrev pub decreases-loop-rows : goal.decreases-loop-rows
decreases-loop-rows l = 10001 - length l.rows.items
