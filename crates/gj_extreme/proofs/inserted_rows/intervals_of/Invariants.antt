use Rattle.std.proofs.Common.{length}
use Rattle.gj_shape.specs.SlopeRows.{component_in}
use Rattle.gj_extreme.specs.PairsLeft.{AreIntervalsOf}
use Rattle.gj_extreme.proofs.inserted_rows.intervals_of.Given as goal

abbrev pub invariant-loop-i : goal.invariant-loop-i
invariant-loop-i l =
    AreIntervalsOf (component_in l.component) (length l.component) l.intervals.items
