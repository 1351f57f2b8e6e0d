use Rattle.gj_problem.specs.OneDenominator.{IsDenominator}
use Rattle.gj_problem.proofs.combination.common_factor.Given as goal

abbrev pub invariant-loop-factor : goal.invariant-loop-factor
invariant-loop-factor l = IsDenominator l.common
