use Rattle.gj_shape.specs.Entries.{HasEntries}
use Rattle.gj_family.specs.Numerators.{doubled_value}
use Rattle.gj_family.proofs.halves.doubled_values.Given as goal

abbrev pub invariant-loop-i : goal.invariant-loop-i
invariant-loop-i l = HasEntries (doubled_value l.place) l.i l.entries.items
