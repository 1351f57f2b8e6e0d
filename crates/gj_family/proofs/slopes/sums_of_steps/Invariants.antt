use Rattle.std.proofs.Common.{◌≡◌}
use Rattle.gj_shape.specs.Entries.{HasEntries}
use Rattle.gj_family.specs.Signs.{sum_of_steps}
use Rattle.gj_family.proofs.slopes.sums_of_steps.Given as goal

abbrev pub invariant-loop-sign : goal.invariant-loop-sign
invariant-loop-sign l = record {
  entries : HasEntries (sum_of_steps l.up l.down l.signs) l.sign-index l.sums.items;
  sum_is : l.sum ≡ sum_of_steps l.up l.down l.signs l.sign-index;
}
