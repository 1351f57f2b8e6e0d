use Rattle.gj_loops.specs.IndexSets.{has}
use Rattle.gj_loops.proofs.Shifts.{bit_of-lower}
use Rattle.gj_loops.proofs.moved.one_lower.Goals as goal

pub returns : goal.returns
unfolding has
returns c i = bit_of-lower c.args.words.now i c.requires c.type_inv.words
