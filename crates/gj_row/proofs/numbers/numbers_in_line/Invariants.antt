use Rattle.std.proofs.Common.{length}
use Rattle.gj_row.specs.Reading.{fields_behind, fields_of_line}
use Rattle.gj_row.proofs.RowNumbers.{HasReadFront}
use Rattle.gj_row.proofs.numbers.numbers_in_line.Given as goal

abbrev pub invariant-loop-left : goal.invariant-loop-left
invariant-loop-left l =
    HasReadFront l.used (fields_of_line l.line) (fields_behind l.left) l.rhs l.scale l.entries.items
    l.column

abbrev pub decreases-loop-left : goal.decreases-loop-left
decreases-loop-left l = length (fields_behind l.left)
