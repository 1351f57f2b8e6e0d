use Rattle.std.proofs.Common.{◌-◌, ◌≤◌, length}
use Rattle.gj_faces.proofs.RunLists.{IsBetween}
use Rattle.gj_faces.proofs.search.is_in_runs.Given as goal

abbrev pub invariant-loop-low : goal.invariant-loop-low
invariant-loop-low l = (l.low ≤ l.high) × (l.high ≤ length l.runs)
    × IsBetween l.q l.runs l.i l.j l.low l.high

abbrev pub decreases-loop-low : goal.decreases-loop-low
decreases-loop-low l = l.high - l.low
