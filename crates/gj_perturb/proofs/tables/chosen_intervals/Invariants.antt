use Rattle.std.proofs.Common.{take}
use Rattle.gj_perturb.proofs.ChosenIntervals.{AreMarks}
use Rattle.gj_perturb.proofs.tables.chosen_intervals.Given as goal

abbrev pub invariant-loop-a : goal.invariant-loop-a
invariant-loop-a l = AreMarks l.chosen.items l.q (take l.a-index l.class)
