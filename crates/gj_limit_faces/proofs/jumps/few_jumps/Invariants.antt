use Rattle.std.proofs.Common.{ℕ, ◌≡◌, ◌⊎◌, ◌<◌, length, get_or}
use Rattle.gj_limit_faces.specs.ValueRows.{IsContinuousAt}
use Rattle.gj_limit_faces.proofs.jumps.few_jumps.Given as goal

abbrev pub invariant-loop-i : goal.invariant-loop-i
invariant-loop-i l =
    ((m : ℕ) → m < length l.jumps.items → get_or l.jumps.items m 0 < l.i)
    × ((j : ℕ) → j < l.i → IsContinuousAt l.shape j
    ⊎ ((m : ℕ) × (m < length l.jumps.items) × (get_or l.jumps.items m 0 ≡ j)))
