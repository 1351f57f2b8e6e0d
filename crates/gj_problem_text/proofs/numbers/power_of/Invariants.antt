use Rattle.std.proofs.Common.{◌≡◌, ◌*◌, ◌^◌, ◌<◌}
use Rattle.gj_problem_text.proofs.numbers.power_of.Given as goal

abbrev pub invariant-loop-left : goal.invariant-loop-left
invariant-loop-left l = record {
  some : 0 < l.bottom;
  small : l.bottom < 2 ^ 127;
  product : l.bottom * l.base ^ l.left ≡ l.base ^ l.power;
}

abbrev pub decreases-loop-left : goal.decreases-loop-left
decreases-loop-left l = l.left
