use Rattle.std.proofs.Common.{◌≡◌, ◌*◌, length}
use Rattle.gj_shape.specs.Given.{AreOver}
use Rattle.gj_shape.specs.Refinement.{refined}
use Rattle.gj_shape.proofs.shape.Shape.refined_list.Given as goal

abbrev pub invariant-loop-i : goal.invariant-loop-i
invariant-loop-i l = record {
  count : length l.items.items ≡ l.i;
  fractions : AreOver (refined l.self l.entries l.times) (l.self.scale * l.times) l.items.items;
}
