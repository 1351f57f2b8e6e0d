use Rattle.std.proofs.Common.{ℕ, ◌<◌, pos, get_or, unsigned_abs}
use Rattle.gj_limit_faces.proofs.lanes.are_below.Given as goal

abbrev pub invariant-loop-number : goal.invariant-loop-number
invariant-loop-number l = (k : ℕ) → k < l.number-index →
    unsigned_abs (get_or l.numbers k (pos 0)) < l.bound
