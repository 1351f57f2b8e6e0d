use Rattle.std.proofs.Common.{◌≡◌, ◌++◌, [], length}
use Rattle.csv.specs.Records.{fields_of, partial_of}
use Rattle.gj_row.specs.Reading.{fields_behind, fields_of_line}
use Rattle.gj_row.proofs.fields.record_of_line.Given as goal

abbrev pub invariant-loop-left : goal.invariant-loop-left
invariant-loop-left l = record {
  read : fields_of_line l.line ≡ fields_of l.fields ++ fields_behind l.left;
  whole : partial_of l.fields ≡ [];
}

abbrev pub decreases-loop-left : goal.decreases-loop-left
decreases-loop-left l = length (fields_behind l.left)
