use Rattle.std.proofs.Common.{◌^◌, pos, get_or, arith}
use Rattle.gj_shape.specs.SlopeRows.{component_in}
use Rattle.gj_theory.proofs.RiseCounts.{added_more, added_small, one_more_fits, read_one_more, component_below}
use Rattle.gj_system.proofs.rises.add_rises.Goals as goal

pub overflow_add-row : goal.overflow_add-row
overflow_add-row c =
    one_more_fits (get_or c.loop-i.row (get_or c.args.component.now c.loop-i.i 0) (pos 0))
    c.loop-i.i
    (added_small (component_in c.args.component.now) c.loop-i.i
    (get_or c.args.component.now c.loop-i.i 0) (2 ^ 100) c.args.row.now c.loop-i.row
    c.loop-i.invariant c.requires.small
    (component_below c.args.component.now c.args.row.now c.loop-i.i c.requires.components
    (omega arith)))
    (omega arith)

pub loop-i-preserved : goal.loop-i-preserved
loop-i-preserved c =
    let inside = component_below c.args.component.now c.args.row.now c.loop-i.i
    c.requires.components (omega arith) in
    added_more (component_in c.args.component.now) c.loop-i.i c.args.row.now c.loop-i.row _
    c.loop-i.invariant c.loop-i.auto.row inside
    (read_one_more (get_or c.loop-i.row (get_or c.args.component.now c.loop-i.i 0) (pos 0))
    c.loop-i.i
    (added_small (component_in c.args.component.now) c.loop-i.i
    (get_or c.args.component.now c.loop-i.i 0) (2 ^ 100) c.args.row.now c.loop-i.row
    c.loop-i.invariant c.requires.small inside)
    (omega arith))
