use Rattle.std.proofs.Common.{◌≡◌, List, length, take}
use Rattle.gj_fields.specs.Rational.{Rational, rational, ◌+ℚ◌, ◌*ℚ◌}
use Rattle.gj_problem.specs.Problems.{sum_at}
use Rattle.gj_problem.specs.Rows.{dot}
use Rattle.gj_problem.specs.Steps.{IsWideWithin}
use Rattle.gj_problem.proofs.sums.Sum.add_entries.Given as goal

abbrev pub invariant-loop-entry : goal.invariant-loop-entry
invariant-loop-entry l = record {
  right : l.self.right ≡ l.initial.self.right;
  count : length l.self.coefficients.items ≡ length l.initial.self.coefficients.items;
  added : (point : List Rational) → dot l.self.coefficients.items point
      ≡ dot l.initial.self.coefficients.items point +ℚ rational l.factor *ℚ sum_at point
      (take l.entry-index l.entries);
  narrow : IsWideWithin l.initial.self.coefficients.items l.factor (take l.entry-index l.entries) →
      ⊥;
}
