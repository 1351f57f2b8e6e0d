use Rattle.gj_shape.proofs.BreakPieces.{AreLaidFrom}
use Rattle.gj_shape.proofs.shape.Shape.from_breaks.Given as goal

abbrev pub invariant-loop-i : goal.invariant-loop-i
invariant-loop-i l = AreLaidFrom l.q l.first.left l.points l.i l.grid.items
