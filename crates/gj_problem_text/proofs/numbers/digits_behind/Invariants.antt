use Rattle.std.proofs.Common.{◌≡◌, ◌^◌, ◌<◌, take}
use Rattle.std.specs.Str.Parse.{AllDigits, digits_value_after}
use Rattle.gj_problem_text.proofs.numbers.digits_behind.Given as goal

abbrev pub invariant-loop-byte : goal.invariant-loop-byte
invariant-loop-byte l = record {
  digits : AllDigits l.radix (take l.byte-index l.word);
  value : l.value ≡ digits_value_after l.radix l.front (take l.byte-index l.word);
  small : l.value < 2 ^ 127;
}
