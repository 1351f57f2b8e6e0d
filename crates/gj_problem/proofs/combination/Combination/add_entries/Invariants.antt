use Rattle.std.proofs.Common.{◌≡◌, take}
use Rattle.gj_problem.specs.Combinations.{AddsEntries}
use Rattle.gj_problem.proofs.combination.Combination.add_entries.Given as goal

abbrev pub invariant-loop-entry : goal.invariant-loop-entry
invariant-loop-entry l = record {
  factors : l.self.factors ≡ l.initial.self.factors;
  added : AddsEntries l.initial.self l.factor (take l.entry-index l.entries) l.self;
}
