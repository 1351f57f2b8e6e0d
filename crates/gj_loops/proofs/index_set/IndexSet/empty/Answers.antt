use Rattle.gj_loops.specs.IndexSets.{has}
use Rattle.gj_loops.proofs.Bits.{bit_of_zeros}
use Rattle.gj_loops.proofs.index_set.IndexSet.empty.Goals as goal

pub returns : goal.returns
unfolding has
returns c i = bit_of_zeros 16 i
