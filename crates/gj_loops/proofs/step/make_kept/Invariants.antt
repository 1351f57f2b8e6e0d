use Rattle.std.proofs.Common.{◌≡◌, ◌++◌, map, take, drop, neg_ℤ}
use Rattle.gj_loops.proofs.step.make_kept.Given as goal

abbrev pub invariant-loop-x : goal.invariant-loop-x
invariant-loop-x l = l.row ≡ map neg_ℤ (take l.x-index l.initial.row)
    ++ drop l.x-index l.initial.row
