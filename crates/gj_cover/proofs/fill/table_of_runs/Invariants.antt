use Rattle.std.proofs.Common.{◌≡◌, length}
use Rattle.gj_cover.proofs.Marks.{HoldRuns}
use Rattle.gj_cover.proofs.fill.table_of_runs.Given as goal

abbrev pub invariant-loop-run : goal.invariant-loop-run
invariant-loop-run l = (length l.rows.items ≡ l.q) × HoldRuns l.q l.runs l.run-index l.rows.items
