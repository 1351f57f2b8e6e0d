use Rattle.gj_problem.specs.Signs.{IsNegated}
use Rattle.gj_problem.proofs.DoneUpTo.{AreDoneUpTo}
use Rattle.gj_problem.proofs.slacks.negate.Given as goal

abbrev pub invariant-loop-i : goal.invariant-loop-i
invariant-loop-i l = AreDoneUpTo IsNegated l.i l.initial.entries.items l.entries.items
