use Rattle.std.proofs.Common.{arith}
use Rattle.gj_loops.specs.IndexSets.{has}
use Rattle.gj_loops.proofs.Bits.{bit_of-inserted}
use Rattle.gj_loops.proofs.index_set.IndexSet.insert.Goals as goal

pub returns : goal.returns
unfolding has
returns c j = bit_of-inserted c.args.self.now.words c.args.i j (omega arith)
