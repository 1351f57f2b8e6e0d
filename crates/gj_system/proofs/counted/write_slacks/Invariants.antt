use Rattle.std.proofs.Common.{◌≡◌, ℕ, ◌<◌, pos, ◌+ℤ◌, ◌-ℤ◌, get_or}
use Rattle.gj_system.proofs.counted.write_slacks.Given as goal

abbrev pub invariant-loop-c : goal.invariant-loop-c
invariant-loop-c l =
    (c : ℕ) → c < l.c → get_or l.row c (pos 0) ≡ pos (get_or l.first c 0) +ℤ pos
    (get_or l.second c 0) -ℤ pos (get_or l.third c 0)
