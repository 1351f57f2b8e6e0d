use Rattle.std.proofs.Common.{◌≡◌, ℕ, ◌<◌, ◌*ℤ◌, ◌++◌, map, take, drop}
use Rattle.gj_shape.specs.Elimination.{at_column}
use Rattle.gj_frac.specs.Fraction.{Fits}
use Rattle.gj_elim.proofs.solve.multiply.Given as goal

abbrev pub invariant-loop-x : goal.invariant-loop-x
invariant-loop-x l = record {
  done : l.numbers ≡ map (λ x. l.factor *ℤ x) (take l.x-index l.initial.numbers)
      ++ drop l.x-index l.initial.numbers;
  fit : (k : ℕ) → k < l.x-index → Fits (l.factor *ℤ at_column l.initial.numbers k);
}
