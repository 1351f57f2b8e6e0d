use Rattle.gj_loops.specs.IndexSets.{has}
use Rattle.gj_loops.proofs.index_set.IndexSet.down_one.Goals as goal

pub returns : goal.returns
unfolding has
returns c i = c.one_lower.ensures i
