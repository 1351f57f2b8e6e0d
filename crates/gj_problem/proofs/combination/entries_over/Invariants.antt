use Rattle.std.proofs.Common.{◌≤◌, length}
use Rattle.gj_problem.specs.EntriesOver.{AreEntriesOver}
use Rattle.gj_problem.proofs.combination.entries_over.Given as goal

abbrev pub invariant-loop-column : goal.invariant-loop-column
invariant-loop-column l = record {
  entries : AreEntriesOver l.denominator l.numerators l.column l.entries.items;
  below : l.column ≤ length l.numerators;
}
