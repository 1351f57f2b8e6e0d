use Rattle.std.proofs.Common.{ℕ, ◌<◌}
use Rattle.gj_check.specs.HalvesRules.{MeetsPair}
use Rattle.gj_check.proofs.halves.failure_in_pairs.Given as goal

abbrev pub invariant-loop-index : goal.invariant-loop-index
invariant-loop-index l = (i : ℕ) → i < l.index → MeetsPair l.shape l.halves i
