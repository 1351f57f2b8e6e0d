use Rattle.std.proofs.Common.{◌≡◌, length, map, take}
use Rattle.gj_shape.specs.SlopeRows.{row_of, component_in}
use Rattle.gj_extreme.proofs.residues.rows_of.Given as goal

abbrev pub invariant-loop-name : goal.invariant-loop-name
invariant-loop-name l =
    l.rows.items
    ≡ map (row_of (component_in l.system.component) l.system.columns
    (length l.system.component) l.place) (take l.name-index l.names)
