use Rattle.std.proofs.Common.{arith}
use Rattle.gj_loops.specs.IndexSets.{has}
use Rattle.gj_loops.proofs.Bits.{bit_of-and}
use Rattle.gj_loops.proofs.index_set.IndexSet.and.Goals as goal

pub returns : goal.returns
unfolding has
returns c i = bit_of-and c.args.self.now.words c.args.other.now.words i (omega arith)
