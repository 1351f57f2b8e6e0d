use Rattle.std.proofs.Common.{◌-◌, take, drop}
use Rattle.gj_row.specs.Reading.{HasRead, words_in}
use Rattle.gj_row.proofs.numbers.numbers_in.Given as goal

abbrev pub invariant-loop-place : goal.invariant-loop-place
invariant-loop-place l =
    HasRead l.used (take (l.place - 1) (drop 1 (words_in l.fields))) l.rhs l.scale l.entries.items
