use Rattle.gj_fill.proofs.FirstPairs.{NonePairs}
use Rattle.gj_fill.proofs.pairs.first_pair.Given as goal

abbrev pub invariant-loop-a : goal.invariant-loop-a
invariant-loop-a l = NonePairs l.shape l.a
