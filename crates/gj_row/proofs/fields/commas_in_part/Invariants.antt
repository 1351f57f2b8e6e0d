use Rattle.std.proofs.Common.{◌≡◌, take}
use Rattle.std.specs.List.{count_by}
use Rattle.gj_row.specs.Reading.{is_comma}
use Rattle.gj_row.proofs.fields.commas_in_part.Given as goal

abbrev pub invariant-loop-byte : goal.invariant-loop-byte
invariant-loop-byte l = l.count ≡ count_by is_comma (take l.byte-index l.part)
