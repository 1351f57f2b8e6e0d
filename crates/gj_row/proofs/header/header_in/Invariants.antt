use Rattle.std.proofs.Common.{◌-◌, ◌≡◌, take, drop}
use Rattle.gj_row.specs.TableauLimits.{AreNames}
use Rattle.gj_row.specs.Reading.{bytes_of, words_in}
use Rattle.gj_row.proofs.header.header_in.Given as goal

abbrev pub invariant-loop-place : goal.invariant-loop-place
invariant-loop-place l = record {
  read : l.columns.items ≡ take (l.place - 2) (drop 2 (words_in l.fields));
  names : AreNames l.columns.items;
  kept : bytes_of l.names.keys ≡ l.columns.items;
}
