use Rattle.std.proofs.Common.{◌≡◌, ◌+◌, ◌-◌, ◌*◌, ◌^◌, ◌≤◌, length, take}
use Rattle.std.specs.Str.Parse.{AllDigits, digits_value_after}
use Rattle.gj_lex.proofs.digits.leading_value_after.Given as goal

abbrev pub invariant-loop-place : goal.invariant-loop-place
invariant-loop-place l = record {
  digits : AllDigits 10 (take l.place l.word);
  value : l.value ≡ digits_value_after 10 l.front (take l.place l.word);
  small : (l.value + 1) * 10 ^ (length l.word - l.place) ≤ 10 ^ 19;
}
