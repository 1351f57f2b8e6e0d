use Rattle.gj_extreme.specs.SeenPairs.{AreSeenBelow}
use Rattle.gj_extreme.specs.RowsToCome.{AreToCome, row_names_from}
use Rattle.gj_shape.specs.SlopeRows.{component_in}
use Rattle.gj_extreme.proofs.inserted_rows.rows_of.Given as goal

abbrev pub invariant-loop-a : goal.invariant-loop-a
invariant-loop-a l =
    AreToCome l.shape (component_in l.system.component) l.system.columns l.rows
    (row_names_from l.shape l.a)
    × AreSeenBelow l.shape.order l.rows.seen
