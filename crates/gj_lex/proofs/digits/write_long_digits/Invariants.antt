use Rattle.std.proofs.Common.{◌≡◌, ◌+◌, ◌<◌, ◌≤◌, ◌^◌, ◌++◌, length, drop, decimal}
use Rattle.gj_lex.proofs.digits.write_long_digits.Given as goal

abbrev pub invariant-loop-rest : goal.invariant-loop-rest
invariant-loop-rest l = record {
  written : decimal l.n ++ drop l.end l.initial.text ≡ decimal l.rest ++ drop l.start l.text;
  room : l.end + length (decimal l.rest) ≤ l.start + 39;
  within : l.start ≤ l.end;
  small : l.rest < 2 ^ 128;
}

abbrev pub decreases-loop-rest : goal.decreases-loop-rest
decreases-loop-rest l = l.start
