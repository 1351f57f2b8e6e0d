use Rattle.std.proofs.Common.{◌^◌, pos, arith}
use Rattle.gj_faces.proofs.Readings.{all_in_range}
use Rattle.gj_faces.proofs.lanes.tight_rows.Goals as goal

pub wide_rows-requires-clause-range : goal.wide_rows-requires-clause-range
wide_rows-requires-clause-range c =
    let read = c.value_numerators-values.ensures in
    all_in_range (2 ^ 62) c.args.shape.now.value (omega arith) (λ i below.
    let small = read.limits.value_small i (pos 0) below in
    let scale = read.limits.scale_high in
    omega arith)
