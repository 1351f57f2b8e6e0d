use Rattle.std.proofs.Common.{ℕ, ◌<◌, ◌≤◌, ◌-◌, length, get_or}
use Rattle.gj_limit_system.specs.Places.{no_entry}
use Rattle.gj_limit_system.proofs.entries.place_of.Given as goal

abbrev pub invariant-loop-place : goal.invariant-loop-place
invariant-loop-place l =
    (l.place ≤ length l.entries)
    × ((i : ℕ) → i < l.place → (get_or l.entries i no_entry).column < l.column)

abbrev pub decreases-loop-place : goal.decreases-loop-place
decreases-loop-place l = length l.entries - l.place
