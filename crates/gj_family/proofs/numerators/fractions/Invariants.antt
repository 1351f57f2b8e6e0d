use Rattle.std.proofs.Common.{◌≡◌, length}
use Rattle.gj_shape.specs.FunctionData.{at}
use Rattle.gj_shape.specs.Given.{AreOver}
use Rattle.gj_family.proofs.numerators.fractions.Given as goal

abbrev pub invariant-loop-numerator : goal.invariant-loop-numerator
invariant-loop-numerator l = record {
  count : length l.items.items ≡ l.numerator-index;
  fractions : AreOver (at l.numerators) l.denominator l.items.items;
}
