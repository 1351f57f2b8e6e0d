use Rattle.std.proofs.Common.{◌^◌, pos, arith}
use Rattle.gj_faces.proofs.Readings.{all_in_range}
use Rattle.gj_limit_faces.proofs.lanes.SideLanes.of.Goals as goal

pub periods-requires-2-clause-range : goal.periods-requires-2-clause-range
periods-requires-2-clause-range c =
    all_in_range (2 ^ 62) c.left_numerators-2.result.now (omega arith) (λ i below.
    let small = c.left_numerators-2.ensures.small i (pos 0) below in
    omega arith)

pub periods-requires-3-clause-range : goal.periods-requires-3-clause-range
periods-requires-3-clause-range c =
    all_in_range (2 ^ 62) c.value_numerators-2.result.now (omega arith) (λ i below.
    let small = c.value_numerators-2.ensures.small i (pos 0) below in
    omega arith)

pub periods-requires-4-clause-range : goal.periods-requires-4-clause-range
periods-requires-4-clause-range c =
    all_in_range (2 ^ 62) c.right_numerators-2.result.now (omega arith) (λ i below.
    let small = c.right_numerators-2.ensures.small i (pos 0) below in
    omega arith)
