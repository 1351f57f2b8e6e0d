-- What always holds of the fields of the rows.
use Rattle.std.specs.Prelude.{◌<◌, ◌≤◌, length, All}
use Rattle.gj_shape.specs.Given.{IsOrder, IsPlace}
use Rattle.gj_limit_system.specs.Unknowns.{ColumnData}
use Rattle.gj_limit_system.specs.declared.limit_rows.LimitRows.TheInside.{Inside}

-- what contracts see of these fields
abbrev pub data_of : Inside → ColumnData
data_of r = record { place = r.place; component = r.component.items; count = r.count }

-- there is a component below the count for each interval, and f is one of the points between
pub record AreLimitRows (r : Inside) : Type 0 where
  pub order : IsOrder (length r.component.items)
  pub place : IsPlace (length r.component.items) r.place
  pub components : All (λ c. c < r.count) r.component.items
  pub few : r.count ≤ length r.component.items
