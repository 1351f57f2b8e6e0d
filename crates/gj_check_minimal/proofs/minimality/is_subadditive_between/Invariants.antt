use Rattle.std.proofs.Common.{ℕ, ◌<◌}
use Rattle.gj_check_minimal.specs.Tests.{IsSubadditiveRow}
use Rattle.gj_check_minimal.proofs.minimality.is_subadditive_between.Given as goal

abbrev pub invariant-loop-a : goal.invariant-loop-a
invariant-loop-a g l = (a : ℕ) → a < l.a → IsSubadditiveRow l.shape a
