use Rattle.std.proofs.Common.{◌*◌, ◌^◌, w64, arith}
use Rattle.gj_loops.proofs.EqualSums.{equal_sum_bit}
use Rattle.gj_loops.proofs.signed.I64SignedLane.sums_word.Goals as goal

pub returns : goal.returns
returns c b e below small_first small_value small_sum =
    equal_sum_bit w64 (2 ^ 62) (omega arith) c.args.values.now c.args.sums.now c.args.first e
    (64 * c.args.place) b small_first
    small_value small_sum c.requires.values c.requires.sums below
