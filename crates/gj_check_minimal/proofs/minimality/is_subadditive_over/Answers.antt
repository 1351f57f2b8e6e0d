use Rattle.gj_loops.proofs.LaidNumbers.{up_to_scale}
use Rattle.gj_theory.proofs.Lanes.{are_bounded}
use Rattle.gj_check_minimal.proofs.minimality.is_subadditive_over.Goals as goal

pub write_periods-requires-clause-range : goal.write_periods-requires-clause-range
write_periods-requires-clause-range g c =
    let read = c.value_numerators.ensures in
    let all = are_bounded c.args.shape.now read.limits c.requires.symmetric in
    up_to_scale _ _ _ _ read.value g.met.L.UnsignedLane.from_zero c.requires.fits all.value_low
    all.value_high

pub write_periods-requires-2-clause-range : goal.write_periods-requires-2-clause-range
write_periods-requires-2-clause-range g c =
    let read = c.right_numerators.ensures in
    let all = are_bounded c.args.shape.now read.limits c.requires.symmetric in
    up_to_scale _ _ _ _ read.value g.met.L.UnsignedLane.from_zero c.requires.fits all.right_low
    all.right_high

pub write_periods-requires-3-clause-range : goal.write_periods-requires-3-clause-range
write_periods-requires-3-clause-range g c =
    let read = c.left_numerators.ensures in
    let all = are_bounded c.args.shape.now read.limits c.requires.symmetric in
    up_to_scale _ _ _ _ read.value g.met.L.UnsignedLane.from_zero c.requires.fits all.left_low
    all.left_high
