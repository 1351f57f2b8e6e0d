use Rattle.std.proofs.Common.{◌≡◌, ◌%◌, map}
use Rattle.std.specs.List.{range_with_len}
use Rattle.gj_shape.specs.Elimination.{at_column}
use Rattle.gj_limit_system.specs.Unknowns.{right_column}
use Rattle.gj_limit_halves.proofs.perturbations.right_limits.Given as goal

abbrev pub invariant-loop-i : goal.invariant-loop-i
invariant-loop-i l =
    l.limits.items ≡ map (λ i. at_column l.numbers (right_column l.order (i % l.order)))
    (range_with_len 0 l.i)
