use Rattle.std.proofs.Common.{ℕ, ◌<◌}
use Rattle.gj_limit_check_halves.specs.HalvesOutcome.{MeetsLimitPair}
use Rattle.gj_limit_check_halves.proofs.pairs.failure_in_pairs.Given as goal

abbrev pub invariant-loop-index : goal.invariant-loop-index
invariant-loop-index l = (i : ℕ) → i < l.index → MeetsLimitPair l.shape l.halves i
