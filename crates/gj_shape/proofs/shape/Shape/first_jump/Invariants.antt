use Rattle.std.proofs.Common.{◌≡◌, ◌<◌, ℕ, pos, get_or}
use Rattle.gj_shape.proofs.shape.Shape.first_jump.Given as goal

abbrev pub invariant-loop-i : goal.invariant-loop-i
invariant-loop-i l =
    (j : ℕ) → j < l.i →
    (get_or l.self-inside.left.items j (pos 0) ≡ get_or l.self-inside.value.items j (pos 0))
    × (get_or l.self-inside.value.items j (pos 0) ≡ get_or l.self-inside.right.items j (pos 0))
