use Rattle.gj_limit_faces.specs.ValueRows.{IsMended}
use Rattle.gj_limit_faces.proofs.square_row.mended.Given as goal

abbrev pub invariant-loop-jump : goal.invariant-loop-jump
invariant-loop-jump l = IsMended l.shape l.terms l.a l.jumps l.jump-index l.set
