use Rattle.std.proofs.Common.{◌∷◌, map, take}
use Rattle.gj_shape.specs.Given.{IsLeastCommonDenominator}
use Rattle.gj_problem.proofs.scales.common_denominator.Given as goal

abbrev pub invariant-loop-entry : goal.invariant-loop-entry
invariant-loop-entry l =
    IsLeastCommonDenominator (l.fn.right ∷ map (λ e. e.value) (take l.entry-index l.entries))
    l.least
