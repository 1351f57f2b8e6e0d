use Rattle.std.proofs.Common.{◌≡◌, ◌+◌, ◌≤◌, length}
use Rattle.std.specs.List.{count_by}
use Rattle.gj_row.specs.Reading.{is_comma}
use Rattle.gj_row.proofs.fields.commas.Given as goal

abbrev pub invariant-loop-left : goal.invariant-loop-left
invariant-loop-left l = record {
  count : l.count + count_by is_comma l.left ≡ count_by is_comma l.line;
  within : l.count + length l.left ≤ length l.line;
}

abbrev pub decreases-loop-left : goal.decreases-loop-left
decreases-loop-left l = length l.left
