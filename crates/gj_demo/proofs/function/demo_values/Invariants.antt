use Rattle.std.proofs.Common.{◌≡◌, ◌*◌, pos, length}
use Rattle.gj_shape.specs.Given.{AreOver}
use Rattle.gj_demo.specs.Demo.{demo_number}
use Rattle.gj_demo.proofs.function.demo_values.Given as goal

abbrev pub invariant-loop-i : goal.invariant-loop-i
invariant-loop-i l = record {
  count : length l.values.items ≡ l.i;
  values : AreOver (λ i. pos (demo_number l.k i)) (2 * l.k) l.values.items;
}
