use Rattle.gj_shape.proofs.BreakPieces.{IsLineSoFar}
use Rattle.gj_shape.proofs.pieces.push_line.Given as goal

abbrev pub invariant-loop-i : goal.invariant-loop-i
invariant-loop-i l = IsLineSoFar l.fn.points.items l.fn.u l.fn.w l.steps l.i l.points.items
