use Rattle.std.proofs.Common.{◌≡◌, ◌+◌, length, take}
use Rattle.gj_proof.specs.ProofText.{group_lines}
use Rattle.gj_check.proofs.extremality.line_behind_groups.Given as goal

abbrev pub invariant-loop-row : goal.invariant-loop-row
invariant-loop-row l = l.line ≡ l.first + length (group_lines 0 (take l.row-index l.rows))
