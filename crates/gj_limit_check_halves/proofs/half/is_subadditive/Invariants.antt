use Rattle.std.proofs.Common.{ℕ, ◌<◌}
use Rattle.gj_check_minimal.specs.Tests.{IsSubadditiveRow}
use Rattle.gj_limit_check_halves.specs.Half.{data_of}
use Rattle.gj_limit_check_halves.proofs.half.is_subadditive.Given as goal

abbrev pub invariant-loop-a : goal.invariant-loop-a
invariant-loop-a l = (a : ℕ) → a < l.a → IsSubadditiveRow (data_of l.half) a
