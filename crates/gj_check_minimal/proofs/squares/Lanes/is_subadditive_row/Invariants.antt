use Rattle.std.proofs.Common.{◌≡◌, ◌↔◌, ℕ, ◌<◌, ◌≤◌}
use Rattle.gj_check_minimal.specs.Tests.{IsSubadditiveAt}
use Rattle.gj_check_minimal.proofs.squares.Lanes.is_subadditive_row.Given as goal

abbrev pub invariant-loop-b : goal.invariant-loop-b
invariant-loop-b g l = (g.L.UnsignedLane.natural l.excess ≡ 0)
    ↔ ((b : ℕ) → b < l.b → l.a ≤ b → IsSubadditiveAt l.shape l.a b)
