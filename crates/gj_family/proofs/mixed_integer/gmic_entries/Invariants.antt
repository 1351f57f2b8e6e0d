use Rattle.std.proofs.Common.{pos}
use Rattle.gj_shape.specs.Gmic.{gmic_table}
use Rattle.gj_shape.specs.Entries.{HasEntries}
use Rattle.gj_family.proofs.mixed_integer.gmic_entries.Given as goal

abbrev pub invariant-loop-i : goal.invariant-loop-i
invariant-loop-i l = HasEntries (λ i. pos (gmic_table l.order l.place i)) l.i l.entries.items
