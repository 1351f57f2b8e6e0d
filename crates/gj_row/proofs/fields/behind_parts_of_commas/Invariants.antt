use Rattle.std.proofs.Common.{◌≡◌, ◌+◌, ◌≤◌, not, length}
use Rattle.std.specs.List.{position_or_len}
use Rattle.gj_row.specs.Reading.{is_comma}
use Rattle.gj_row.proofs.fields.behind_parts_of_commas.Given as goal

abbrev pub invariant-loop-left : goal.invariant-loop-left
invariant-loop-left l = record {
  count : position_or_len (λ b. not (is_comma b)) l.line + length l.left
      ≡ length l.line + position_or_len (λ b. not (is_comma b)) l.left;
  shorter : length l.left ≤ length l.line;
}

abbrev pub decreases-loop-left : goal.decreases-loop-left
decreases-loop-left l = length l.left
