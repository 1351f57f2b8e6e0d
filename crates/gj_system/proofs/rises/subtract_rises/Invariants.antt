use Rattle.gj_theory.proofs.RiseCounts.{HasSubtracted}
use Rattle.gj_shape.specs.SlopeRows.{component_in}
use Rattle.gj_system.proofs.rises.subtract_rises.Given as goal

abbrev pub invariant-loop-i : goal.invariant-loop-i
invariant-loop-i l = HasSubtracted (component_in l.component) l.i l.initial.row l.row
