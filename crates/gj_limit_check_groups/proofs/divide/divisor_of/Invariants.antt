use Rattle.std.proofs.Common.{◌≡◌, drop, map}
use Rattle.gj_lemmas.specs.Divisors.{gcd_of}
use Rattle.gj_shape.specs.Elimination.{gcd_of_row}
use Rattle.gj_limit_check_groups.proofs.divide.divisor_of.Given as goal

abbrev pub invariant-loop-entry : goal.invariant-loop-entry
invariant-loop-entry l =
    gcd_of_row (map (λ e. e.factor) l.row)
    ≡ gcd_of l.divisor (gcd_of_row (drop l.entry-index (map (λ e. e.factor) l.row)))
