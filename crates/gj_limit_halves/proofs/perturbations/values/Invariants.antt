use Rattle.std.proofs.Common.{◌≡◌, ◌%◌, map}
use Rattle.std.specs.List.{range_with_len}
use Rattle.gj_shape.specs.Elimination.{at_column}
use Rattle.gj_limit_system.specs.Unknowns.{value_from}
use Rattle.gj_limit_halves.proofs.perturbations.values.Given as goal

abbrev pub invariant-loop-i : goal.invariant-loop-i
invariant-loop-i l =
    l.values.items ≡ map (λ i. value_from l.order (at_column l.numbers) (i % l.order))
    (range_with_len 0 l.i)
