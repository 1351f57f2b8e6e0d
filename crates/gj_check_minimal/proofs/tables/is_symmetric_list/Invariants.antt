use Rattle.std.proofs.Common.{ℕ, ◌<◌}
use Rattle.gj_check_minimal.specs.Tables.{IsSymmetricIn}
use Rattle.gj_check_minimal.proofs.tables.is_symmetric_list.Given as goal

abbrev pub invariant-loop-i : goal.invariant-loop-i
invariant-loop-i l = (i : ℕ) → i < l.i → IsSymmetricIn l.values l.place l.scale i
