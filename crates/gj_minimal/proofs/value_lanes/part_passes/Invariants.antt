use Rattle.std.proofs.Common.{◌≡◌, ℕ, ◌<◌, ◌≤◌}
use Rattle.gj_theory.specs.EarlierTests.{PassesVertex}
use Rattle.gj_minimal.proofs.value_lanes.part_passes.Given as goal

abbrev pub invariant-loop-b : goal.invariant-loop-b
invariant-loop-b g l = g.L.UnsignedLane.natural l.excess ≡ 0 → (b : ℕ) → b < l.b → l.start ≤ b →
    PassesVertex l.shape l.a b
