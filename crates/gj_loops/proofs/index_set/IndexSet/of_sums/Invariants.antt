use Rattle.std.proofs.Common.{◌≡◌, ℕ, ◌+◌, ◌*◌, ◌<◌, length, get_or}
use Rattle.gj_loops.proofs.Bits.{bit}
use Rattle.gj_loops.proofs.ToldSums.{TellsSum}
use Rattle.gj_loops.proofs.index_set.IndexSet.of_sums.Given as goal

abbrev pub invariant-loop-place : goal.invariant-loop-place
invariant-loop-place g l =
    (length l.set.words ≡ 16)
    × ((k b : ℕ) → k < l.place → b < 64 →
    TellsSum g.L.Lane.number l.values l.fn.first l.sums l.n (64 * k + b)
    (bit (get_or l.set.words k 0) b))
