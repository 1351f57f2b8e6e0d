use Rattle.std.proofs.Common.{◌^◌, pos, get_or, arith}
use Rattle.gj_shape.specs.SlopeRows.{component_in}
use Rattle.gj_theory.proofs.RiseCounts.{one_more_fits, read_one_more, component_below}
use Rattle.gj_check_groups.proofs.RiseRanges.{one_more_added, moved_small}
use Rattle.gj_check_groups.proofs.rises.add_between.Goals as goal

pub overflow_add-row : goal.overflow_add-row
overflow_add-row c =
    let i = c.loop-i.i in
    let inside = component_below c.args.component.now c.args.row.now i c.requires.components
    (omega arith) in
    let small = moved_small (component_in c.args.component.now) c.args.from i _
    (2 ^ 100) i c.args.row.now c.loop-i.row c.loop-i.invariant
    c.requires.small inside c.loop-i.auto.i (omega arith) in
    one_more_fits (get_or c.loop-i.row (get_or c.args.component.now i 0) (pos 0)) i small
    (omega arith)

pub loop-i-preserved : goal.loop-i-preserved
loop-i-preserved c =
    let i = c.loop-i.i in
    let inside = component_below c.args.component.now c.args.row.now i c.requires.components
    (omega arith) in
    let small = moved_small (component_in c.args.component.now) c.args.from i _
    (2 ^ 100) i c.args.row.now c.loop-i.row c.loop-i.invariant
    c.requires.small inside c.loop-i.auto.i (omega arith) in
    one_more_added (component_in c.args.component.now) c.args.from i c.args.row.now c.loop-i.row _
    c.loop-i.invariant c.loop-i.auto.row inside
    (read_one_more (get_or c.loop-i.row (get_or c.args.component.now i 0) (pos 0)) i small
    (omega arith))
