use Rattle.std.proofs.Common.{◌≡◌, ◌*◌, ◌+ℤ◌, ◌*ℤ◌, pos, length}
use Rattle.gj_shape.specs.FunctionData.{at}
use Rattle.gj_shape.specs.Given.{AreOver}
use Rattle.gj_shape.proofs.average.half_sums.Given as goal

abbrev pub invariant-loop-i : goal.invariant-loop-i
invariant-loop-i l = record {
  count : length l.items.items ≡ l.i;
  fractions : AreOver (λ i. pos l.other_scale *ℤ at l.entries i +ℤ pos l.scale
      *ℤ at l.other_entries i) (2 * (l.scale * l.other_scale)) l.items.items;
}
