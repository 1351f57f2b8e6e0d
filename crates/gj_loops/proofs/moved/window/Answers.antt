use Rattle.gj_loops.specs.IndexSets.{has}
use Rattle.gj_loops.proofs.Shifts.{bit_of-window}
use Rattle.gj_loops.proofs.moved.window.Goals as goal

pub returns : goal.returns
unfolding has
returns c i below = bit_of-window c.args.wide.now c.args.s i c.requires c.type_inv.wide below
