use Rattle.gj_fill.proofs.Extremes.{AreExtremes}
use Rattle.gj_fill.proofs.steps.greatest_steps.Given as goal

abbrev pub invariant-loop-a : goal.invariant-loop-a
invariant-loop-a l = AreExtremes l.shape.value l.a l.most l.least
