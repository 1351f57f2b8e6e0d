use Rattle.gj_shape.specs.Denominators.{AreWithinBoundsOver}
use Rattle.gj_shape.proofs.InOrder.{before}
use Rattle.gj_shape.proofs.denominators.common_denominator.Given as goal

abbrev pub invariant-loop-i : goal.invariant-loop-i
invariant-loop-i l = AreWithinBoundsOver (before l.left l.value l.right l.i) l.scale
