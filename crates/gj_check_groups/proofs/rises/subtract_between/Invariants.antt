use Rattle.gj_check_groups.proofs.RiseRanges.{HasMoved}
use Rattle.gj_shape.specs.SlopeRows.{component_in}
use Rattle.gj_check_groups.proofs.rises.subtract_between.Given as goal

abbrev pub invariant-loop-i : goal.invariant-loop-i
invariant-loop-i l = HasMoved (component_in l.component) l.i l.from l.initial.row l.row
