use Rattle.std.proofs.Common.{ℕ, ◌<◌, pos, get_or, unsigned_abs}
use Rattle.gj_faces.proofs.lanes.are_below.Given as goal

abbrev pub invariant-loop-value : goal.invariant-loop-value
invariant-loop-value l = (k : ℕ) → k < l.value-index → unsigned_abs (get_or l.values k (pos 0))
    < l.bound
