use Rattle.gj_problem.specs.OneDenominator.{IsTimes}
use Rattle.gj_problem.proofs.DoneUpTo.{AreDoneUpTo}
use Rattle.gj_problem.proofs.combination.multiply.Given as goal

abbrev pub invariant-loop-i : goal.invariant-loop-i
invariant-loop-i l = AreDoneUpTo (IsTimes l.factor) l.i l.initial.numbers.items l.numbers.items
