use Rattle.std.proofs.Common.{◌≡◌, take}
use Rattle.gj_problem.proofs.sparse.Sparse.of.Given as goal

abbrev pub invariant-loop-item : goal.invariant-loop-item
invariant-loop-item l = l.made ≡ take l.item-index l.items
