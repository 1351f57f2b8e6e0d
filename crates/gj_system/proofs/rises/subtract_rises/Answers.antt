use Rattle.std.proofs.Common.{◌^◌, pos, get_or, arith}
use Rattle.gj_shape.specs.SlopeRows.{component_in}
use Rattle.gj_theory.proofs.RiseCounts.{subtracted_more, subtracted_small, one_less_fits, read_one_less, component_below}
use Rattle.gj_system.proofs.rises.subtract_rises.Goals as goal

pub overflow_sub-row : goal.overflow_sub-row
overflow_sub-row c =
    one_less_fits (get_or c.loop-i.row (get_or c.args.component.now c.loop-i.i 0) (pos 0))
    c.loop-i.i
    (subtracted_small (component_in c.args.component.now) c.loop-i.i
    (get_or c.args.component.now c.loop-i.i 0) (2 ^ 100) c.args.row.now c.loop-i.row
    c.loop-i.invariant c.requires.small
    (component_below c.args.component.now c.args.row.now c.loop-i.i c.requires.components
    (omega arith)))
    (omega arith)

pub loop-i-preserved : goal.loop-i-preserved
loop-i-preserved c =
    let inside = component_below c.args.component.now c.args.row.now c.loop-i.i
    c.requires.components (omega arith) in
    subtracted_more (component_in c.args.component.now) c.loop-i.i c.args.row.now c.loop-i.row _
    c.loop-i.invariant c.loop-i.auto.row inside
    (read_one_less (get_or c.loop-i.row (get_or c.args.component.now c.loop-i.i 0) (pos 0))
    c.loop-i.i
    (subtracted_small (component_in c.args.component.now) c.loop-i.i
    (get_or c.args.component.now c.loop-i.i 0) (2 ^ 100) c.args.row.now c.loop-i.row
    c.loop-i.invariant c.requires.small inside)
    (omega arith))
