use Rattle.std.proofs.Common.{◌≡◌, ◌*◌, ◌^◌, ◌<◌}
use Rattle.gj_problem_text.proofs.numbers.multiplied.Given as goal

abbrev pub invariant-loop-left : goal.invariant-loop-left
invariant-loop-left l = record {
  some : 0 < l.value;
  small : l.value < 2 ^ 127;
  product : l.value * l.base ^ l.left ≡ l.top * l.base ^ l.power;
}

abbrev pub decreases-loop-left : goal.decreases-loop-left
decreases-loop-left l = l.left
