use Rattle.std.proofs.Common.{ℕ, ◌<◌, ◌≤◌}
use Rattle.gj_fill.specs.FirstPair.{IsSuperadditivePair}
use Rattle.gj_fill.proofs.pairs.first_behind.Given as goal

abbrev pub invariant-loop-b : goal.invariant-loop-b
invariant-loop-b l = (b : ℕ) → l.a ≤ b → b < l.b → IsSuperadditivePair l.shape l.a b → ⊥
