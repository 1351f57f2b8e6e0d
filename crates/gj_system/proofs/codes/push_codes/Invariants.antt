use Rattle.std.proofs.Common.{◌≡◌, ◌++◌}
use Rattle.gj_shape.specs.SlopeRows.{component_in}
use Rattle.gj_system.specs.Codes.{packed, codes_before}
use Rattle.gj_system.specs.Components.{rises_at}
use Rattle.gj_system.proofs.codes.push_codes.Given as goal

abbrev pub invariant-loop-c : goal.invariant-loop-c
invariant-loop-c l =
    (l.codes.items ≡ l.fn.codes.items ++ codes_before
    (component_in l.component) l.columns l.c-index)
    × (l.code ≡ packed (rises_at (component_in l.component) l.columns l.c-index))
