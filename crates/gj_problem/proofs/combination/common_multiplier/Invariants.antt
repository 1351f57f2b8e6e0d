use Rattle.gj_problem.specs.OneDenominator.{IsDenominator}
use Rattle.gj_problem.proofs.combination.common_multiplier.Given as goal

abbrev pub invariant-loop-run : goal.invariant-loop-run
invariant-loop-run l = IsDenominator l.common
