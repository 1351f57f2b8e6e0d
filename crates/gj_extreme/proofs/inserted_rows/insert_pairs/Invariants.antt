use Rattle.std.proofs.Common.{◌-◌, ◌≤◌}
use Rattle.gj_shape.specs.SlopeRows.{component_in}
use Rattle.gj_extreme.specs.SeenPairs.{AreSeenBelow}
use Rattle.gj_extreme.proofs.LeftPairs.{ArePairsToCome}
use Rattle.gj_extreme.proofs.inserted_rows.insert_pairs.Given as goal

abbrev pub invariant-pairs : goal.invariant-pairs
invariant-pairs l = (l.a ≤ l.from) × (l.from ≤ l.shape.order)
    × ArePairsToCome l.shape (component_in l.system.component) l.system.columns l.a l.from l.rows
    × AreSeenBelow l.shape.order l.rows.seen

abbrev pub decreases-pairs : goal.decreases-pairs
decreases-pairs l = 1024 - l.from
