use Rattle.std.proofs.Common.{◌≡◌, map, take}
use Rattle.gj_cut_text.specs.Columns.{begins_with_c}
use Rattle.gj_cut_text.proofs.columns.continuous_columns.Given as goal

abbrev pub invariant-loop-column : goal.invariant-loop-column
invariant-loop-column l = l.flags.items ≡ map begins_with_c (take l.column-index l.columns)
