use Rattle.std.proofs.Common.{◌≡◌, ◌+◌}
use Rattle.std.specs.List.{flat_map, range_with_len}
use Rattle.gj_shape.specs.SlopeRows.{component_in}
use Rattle.gj_system.specs.Components.{rises_at}
use Rattle.gj_system.proofs.counted.counts_of.Given as goal

abbrev pub invariant-loop-c : goal.invariant-loop-c
invariant-loop-c l =
    (l.count.items ≡ rises_at (component_in l.component) l.columns l.c-index)
    × (l.counts.items ≡ flat_map (rises_at (component_in l.component) l.columns)
    (range_with_len 0 (l.c-index + 1)))
