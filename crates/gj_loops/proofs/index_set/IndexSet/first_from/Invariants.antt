use Rattle.std.proofs.Common.{◌-◌, ◌+◌, ◌*◌, ◌<◌}
use Rattle.gj_loops.proofs.Firsts.{IsRest}
use Rattle.gj_loops.proofs.index_set.IndexSet.first_from.Given as goal

abbrev pub invariant-loop-word : goal.invariant-loop-word
invariant-loop-word l = IsRest l.self.words l.from l.place l.word × (l.from < 64 * (l.place + 1))

abbrev pub decreases-loop-word : goal.decreases-loop-word
decreases-loop-word l = 16 - l.place
