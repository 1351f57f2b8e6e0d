use Rattle.std.proofs.Common.{arith}
use Rattle.gj_sparse_elim.proofs.SparseRows.{bounded_entries}
use Rattle.gj_sparse_elim.proofs.entry.bound_of.Goals as goal

pub returns : goal.returns
returns c =
    bounded_entries c.args.entries.now c.loop-entry.bound
    (λ low i inside. c.loop-entry.invariant low i (omega arith))
