use Rattle.std.proofs.Common.{◌≡◌, ◌++◌}
use Rattle.gj_shape.specs.SlopeRows.{row_names}
use Rattle.gj_extreme.specs.RowsToCome.{row_names_from}
use Rattle.gj_extreme.proofs.residues.names_of.Given as goal

abbrev pub invariant-loop-a : goal.invariant-loop-a
invariant-loop-a l = l.names.items ++ row_names_from l.shape l.a ≡ row_names l.shape
