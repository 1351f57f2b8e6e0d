use Rattle.std.proofs.Common.{◌≡◌, ℕ, ◌<◌, ◌≤◌}
use Rattle.gj_theory.specs.EarlierTests.{PassesSquare}
use Rattle.gj_minimal.proofs.squares.squares_pass.Given as goal

abbrev pub invariant-loop-b : goal.invariant-loop-b
invariant-loop-b g l = g.L.UnsignedLane.natural l.excess ≡ 0 → (b : ℕ) → b < l.b → l.a ≤ b →
    PassesSquare l.shape l.a b
