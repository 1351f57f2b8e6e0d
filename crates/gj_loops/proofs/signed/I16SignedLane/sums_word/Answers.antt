use Rattle.std.proofs.Common.{◌*◌, ◌^◌, w16, arith}
use Rattle.gj_loops.proofs.EqualSums.{equal_sum_bit}
use Rattle.gj_loops.proofs.signed.I16SignedLane.sums_word.Goals as goal

pub returns : goal.returns
returns c b e below small_first small_value small_sum =
    equal_sum_bit w16 (2 ^ 14) (omega arith) c.args.values.now c.args.sums.now c.args.first e
    (64 * c.args.place) b small_first
    small_value small_sum c.requires.values c.requires.sums below
