use Rattle.std.proofs.Common.{◌≡◌, drop}
use Rattle.gj_lemmas.specs.Divisors.{gcd_of}
use Rattle.gj_shape.specs.Elimination.{gcd_of_row}
use Rattle.gj_loops.proofs.step.divisor_of_row.Given as goal

abbrev pub invariant-loop-x : goal.invariant-loop-x
invariant-loop-x l = gcd_of_row l.row ≡ gcd_of l.divisor (gcd_of_row (drop l.x-index l.row))
