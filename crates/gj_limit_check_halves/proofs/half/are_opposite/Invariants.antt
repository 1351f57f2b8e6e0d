use Rattle.std.proofs.Common.{ℕ, ◌<◌}
use Rattle.gj_check_minimal.specs.Numerators.{IsOpposite}
use Rattle.gj_limit_check_halves.proofs.half.are_opposite.Given as goal

abbrev pub invariant-loop-i : goal.invariant-loop-i
invariant-loop-i l = (i : ℕ) → i < l.i → IsOpposite l.numbers l.others l.half.place l.half.scale i
