use Rattle.gj_jumps.specs.LimitCover.{IsTightAt}
use Rattle.gj_limit_cover.proofs.RowCovers.{NoneInRows}
use Rattle.gj_limit_cover.proofs.faces.covering_face.Given as goal

abbrev pub invariant-loop-a : goal.invariant-loop-a
invariant-loop-a l = NoneInRows l.shape.order (IsTightAt l.shape) l.i l.a
