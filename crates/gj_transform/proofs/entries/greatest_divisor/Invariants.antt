use Rattle.std.proofs.Common.{take, ◌<◌}
use Rattle.gj_transform.specs.GreatestDivisor.{IsGreatestDivisor}
use Rattle.gj_transform.proofs.entries.greatest_divisor.Given as goal

abbrev pub invariant-loop-n : goal.invariant-loop-n
invariant-loop-n l = record {
  divisor : IsGreatestDivisor l.fn.number (take l.n-index l.entries) l.divisor;
  some : 0 < l.divisor;
}
