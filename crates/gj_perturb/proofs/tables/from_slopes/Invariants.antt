use Rattle.gj_perturb.proofs.SlopeValues.{AreSums}
use Rattle.gj_perturb.proofs.tables.from_slopes.Given as goal

abbrev pub invariant-loop-c : goal.invariant-loop-c
invariant-loop-c l = AreSums l.component l.slopes l.values.items l.c-index l.value
