use Rattle.std.proofs.Common.{pos}
use Rattle.gj_shape.specs.Entries.{HasEntries}
use Rattle.gj_family.proofs.halves.ones.Given as goal

abbrev pub invariant-loop : goal.invariant-loop
invariant-loop l = HasEntries (λ _. pos 1) l.counter l.entries.items
