use Rattle.gj_theory.proofs.RiseCounts.{HasAdded}
use Rattle.gj_shape.specs.SlopeRows.{component_in}
use Rattle.gj_system.proofs.rises.add_rises.Given as goal

abbrev pub invariant-loop-i : goal.invariant-loop-i
invariant-loop-i l = HasAdded (component_in l.component) l.i l.initial.row l.row
