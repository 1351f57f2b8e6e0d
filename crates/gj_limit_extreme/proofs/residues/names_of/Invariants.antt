use Rattle.std.proofs.Common.{◌≡◌, ◌++◌}
use Rattle.gj_limit_system.specs.LimitRows.{limit_rows}
use Rattle.gj_limit_extreme.specs.RowsToCome.{tight_rows_from}
use Rattle.gj_limit_extreme.proofs.residues.names_of.Given as goal

abbrev pub invariant-loop-a : goal.invariant-loop-a
invariant-loop-a l = l.names.items ++ tight_rows_from l.shape l.a ≡ limit_rows l.shape
