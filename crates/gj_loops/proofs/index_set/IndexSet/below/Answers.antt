use Rattle.std.proofs.Common.{◌∙◌, arith}
use Rattle.gj_loops.specs.IndexSets.{has}
use Rattle.gj_loops.proofs.Bits.{all_but_those_below}
use Rattle.gj_loops.proofs.index_set.IndexSet.below.Goals as goal

pub returns : goal.returns
unfolding has
returns c i = c.down.ensures i ∙ all_but_those_below c.args.n i (omega arith)
