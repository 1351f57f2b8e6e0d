use Rattle.std.proofs.Common.{◌≡◌, ℕ, ◌<◌}
use Rattle.gj_shape.specs.FunctionData.{at}
use Rattle.gj_check.proofs.halves.are_different.Given as goal

abbrev pub invariant-loop-i : goal.invariant-loop-i
invariant-loop-i l = (i : ℕ) → i < l.i → at l.first i ≡ at l.second i
