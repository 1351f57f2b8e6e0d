use Rattle.std.proofs.Common.{below_more, arith}
use Rattle.gj_minimal.specs.Failures.{PassesRow}
use Rattle.gj_loops.proofs.LaidNumbers.{up_to_scale}
use Rattle.gj_theory.proofs.Lanes.{are_bounded}
use Rattle.gj_minimal.proofs.faces.failed_over.Goals as goal

pub loop-a-preserved : goal.loop-a-preserved
loop-a-preserved g c =
    below_more (PassesRow c.args.shape.now) c.loop-a.a c.loop-a.invariant c.in_default.ensures.none

pub returns-clause-none : goal.returns-clause-none
returns-clause-none g c = λ a below. c.loop-a.invariant a (omega arith)

pub write_periods-requires-clause-range : goal.write_periods-requires-clause-range
write_periods-requires-clause-range g c =
    let read = c.left_numerators.ensures in
    let all = are_bounded c.args.shape.now read.limits c.requires.vertices.symmetry in
    up_to_scale _ _ _ _ read.value g.met.L.UnsignedLane.from_zero c.requires.fits all.left_low
    all.left_high

pub write_periods-requires-2-clause-range : goal.write_periods-requires-2-clause-range
write_periods-requires-2-clause-range g c =
    let read = c.value_numerators.ensures in
    let all = are_bounded c.args.shape.now read.limits c.requires.vertices.symmetry in
    up_to_scale _ _ _ _ read.value g.met.L.UnsignedLane.from_zero c.requires.fits all.value_low
    all.value_high

pub write_periods-requires-3-clause-range : goal.write_periods-requires-3-clause-range
write_periods-requires-3-clause-range g c =
    let read = c.right_numerators.ensures in
    let all = are_bounded c.args.shape.now read.limits c.requires.vertices.symmetry in
    up_to_scale _ _ _ _ read.value g.met.L.UnsignedLane.from_zero c.requires.fits all.right_low
    all.right_high
