use Rattle.std.proofs.Common.{◌≡◌, ◌⊎◌, ◌≤◌, ◌%◌, ◌*◌, ◌^◌, ◌-◌}
use Rattle.gj_frac.proofs.decimals.without_fives.Given as goal

abbrev pub invariant-loop-left : goal.invariant-loop-left
invariant-loop-left l = record {
  fewer : l.left ≤ l.fives;
  value : l.rest * 5 ^ (l.fives - l.left) ≡ l.top;
  odd : (l.twos ≡ 0) ⊎ (l.rest % 2 ≡ 1);
}

abbrev pub decreases-loop-left : goal.decreases-loop-left
decreases-loop-left l = l.left
