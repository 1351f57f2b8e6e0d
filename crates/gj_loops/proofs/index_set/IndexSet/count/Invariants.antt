use Rattle.std.proofs.Common.{◌≡◌, ◌*◌}
use Rattle.gj_loops.specs.IndexSets.{bit_of, count_below}
use Rattle.gj_loops.proofs.index_set.IndexSet.count.Given as goal

abbrev pub invariant-loop-word : goal.invariant-loop-word
invariant-loop-word l = l.count ≡ count_below (bit_of l.self.words) (64 * l.word-index)
