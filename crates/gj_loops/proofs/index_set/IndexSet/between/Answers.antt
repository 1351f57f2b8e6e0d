use Rattle.gj_loops.proofs.Bits.{between_bounds}
use Rattle.gj_loops.proofs.index_set.IndexSet.between.Goals as goal

pub returns : goal.returns
returns c i =
    let up_to = c.below.ensures i in
    let before = c.below-2.ensures i in
    let both = c.and_not.ensures i in
    let bounds = between_bounds i c.args.from c.args.end in
    cc
