use Rattle.std.proofs.Common.{◌≡◌, ◌+◌, length, take}
use Rattle.gj_limit_proof.specs.LimitText.{group_lines}
use Rattle.gj_limit_check.proofs.extremality.line_behind_groups.Given as goal

abbrev pub invariant-loop-row : goal.invariant-loop-row
invariant-loop-row l = l.line ≡ l.first + length (group_lines 0 (take l.row-index l.rows))
