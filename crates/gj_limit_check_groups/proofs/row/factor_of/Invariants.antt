use Rattle.std.proofs.Common.{◌≡◌, drop}
use Rattle.gj_sparse_elim.specs.Sparse.{factor_at}
use Rattle.gj_limit_check_groups.proofs.row.factor_of.Given as goal

abbrev pub invariant-loop-entry : goal.invariant-loop-entry
invariant-loop-entry l = factor_at l.row l.column ≡ factor_at (drop l.entry-index l.row) l.column
