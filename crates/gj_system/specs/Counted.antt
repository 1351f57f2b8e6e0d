-- What always holds of the counts from which rows are made.
use Rattle.std.specs.Prelude.{◌≡◌, ◌+◌, ◌<◌, length}
use Rattle.std.specs.List.{flat_map, range_with_len}
use Rattle.gj_shape.specs.SlopeRows.{component_in}
use Rattle.gj_system.specs.Codes.{codes_twice, ArePackable}
use Rattle.gj_system.specs.Components.{ComponentData, rises_at}
use Rattle.gj_system.specs.declared.counted.SlopeRows.TheInside.{Inside}

-- the components with these fields
abbrev pub data_of : Inside → ComponentData
data_of s = record { component = s.component.items; columns = s.columns }

-- there are counts for each grid point, and if there are codes, they are those of the counts
pub record IsCounted (s : Inside) : Type 0 where
  pub counts : s.counts.items ≡ flat_map (rises_at (component_in s.component.items) s.columns)
      (range_with_len 0 (length s.component.items + 1))
  pub packable : 0 < length s.codes.items → ArePackable s.columns (length s.component.items)
  pub codes : 0 < length s.codes.items →
      s.codes.items ≡ codes_twice (component_in s.component.items) s.columns
      (length s.component.items)
