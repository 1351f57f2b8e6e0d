use Rattle.std.proofs.Common.{◌*◌}
use Rattle.gj_shape.specs.Entries.{HasEntries}
use Rattle.gj_shape.specs.FunctionData.{at}
use Rattle.gj_transform.proofs.entries.entries_at_multiples.Given as goal

abbrev pub invariant-loop-i : goal.invariant-loop-i
invariant-loop-i l = HasEntries (λ i. at l.entries (i * l.factor)) l.i l.items.items
