use Rattle.std.proofs.Common.{ℕ, pos, ◌<◌, ◌≤ℤ◌}
use Rattle.gj_shape.specs.FunctionData.{at}
use Rattle.gj_check_minimal.proofs.minimality.has_no_negative.Given as goal

abbrev pub invariant-loop-i : goal.invariant-loop-i
invariant-loop-i l = (i : ℕ) → i < l.i → pos 0 ≤ℤ at l.numbers i
